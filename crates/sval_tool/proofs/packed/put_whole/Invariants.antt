use Rattle.std.specs.Prelude.{length}
use Rattle.sval_tool.specs.TokenBytes.{tokens_bytes}
use Rattle.sval_tool.proofs.TakenBytes.{IsPutUpTo}
use Rattle.sval_tool.proofs.packed.put_whole.Given as goal

abbrev pub invariant-loop-token : goal.invariant-loop-token
invariant-loop-token l = IsPutUpTo l.initial.out l.out (tokens_bytes l.fn.doc) (tokens_bytes l.tokens)

abbrev pub decreases-loop-token : goal.decreases-loop-token
decreases-loop-token l = length l.tokens
