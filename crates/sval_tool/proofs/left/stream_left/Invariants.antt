use Rattle.std.specs.Prelude.{length}
use Rattle.sval_tool.specs.LeftTokens.{left_calls}
use Rattle.sval_tool.proofs.LeftStreams.{IsPassedUpTo}
use Rattle.sval_tool.proofs.left.stream_left.Given as goal

abbrev pub invariant-loop-token : goal.invariant-loop-token
invariant-loop-token g l = IsPassedUpTo g.S.Stream.law (g.S.Stream.standing l.initial.stream) (g.S.Stream.standing l.stream) (left_calls l.fn.rule l.fn.paths l.fn.doc) l.walk l.tokens

abbrev pub decreases-loop-token : goal.decreases-loop-token
decreases-loop-token g l = length l.tokens
