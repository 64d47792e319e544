use Rattle.std.proofs.Common.{arith}
use Rattle.sval_script.proofs.SameRuns.{same_lanes}
use Rattle.sval_script.proofs.short.same_four.Goals as goal

pub returns : goal.returns
returns c = same_lanes c.args.from 4 c.args.a.now c.args.b.now c.requires.in_a c.requires.in_b (omega arith)
