use Rattle.std.proofs.Common.{length}
use Rattle.sval_tape.proofs.Streamed.{IsStreamedUpTo}
use Rattle.sval_tape.proofs.streaming.stream_tape.Given as goal

abbrev pub invariant-calls : goal.invariant-calls
invariant-calls g l = IsStreamedUpTo g.S.Stream.law (g.S.Stream.standing l.initial.stream) (g.S.Stream.standing l.stream) l.bytes l.rest

abbrev pub decreases-calls : goal.decreases-calls
decreases-calls g l = length l.rest
