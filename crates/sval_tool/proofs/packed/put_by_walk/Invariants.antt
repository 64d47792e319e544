use Rattle.std.specs.Prelude.{length}
use Rattle.sval_tool.specs.TokenBytes.{left_bytes}
use Rattle.sval_tool.proofs.TakenBytes.{IsPutWalked}
use Rattle.sval_tool.proofs.packed.put_by_walk.Given as goal

abbrev pub invariant-loop-token : goal.invariant-loop-token
invariant-loop-token l = IsPutWalked l.initial.out l.out (left_bytes l.fn.rule l.fn.paths l.fn.doc) l.walk l.tokens

abbrev pub decreases-loop-token : goal.decreases-loop-token
decreases-loop-token l = length l.tokens
