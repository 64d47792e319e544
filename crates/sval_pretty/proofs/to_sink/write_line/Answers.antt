use Rattle.std.proofs.Common.{rules}
use Rattle.sval_pretty.proofs.Writing.{line_on, line_stops}
use Rattle.sval_pretty.proofs.to_sink.write_line.Goals as goal

pub returns-in_err-write_in_place-2 : goal.returns-in_err-write_in_place-2
returns-in_err-write_in_place-2 g c =
    let stops = line_stops c.args.depth c.loop-level.level c.loop-level-test.true c.loop-level.invariant c.in_err-write_in_place-2.ensures.writes in search rules

pub loop-level-preserved : goal.loop-level-preserved
loop-level-preserved g c = line_on c.loop-level.level c.loop-level.invariant c.in_ok-write_in_place-2.ensures.writes
