use Rattle.std.proofs.Common.{length}
use Rattle.sval_tape.specs.Reading.{calls_on_tape}
use Rattle.sval_tape.proofs.TapeStreams.{IsMadeUpTo}
use Rattle.sval_tape.proofs.tape.make_calls.Given as goal

abbrev pub invariant-calls : goal.invariant-calls
invariant-calls g l = IsMadeUpTo g.S.Stream.law (g.S.Stream.standing l.initial.stream) (g.S.Stream.standing l.stream) (calls_on_tape l.bytes) l.rest

abbrev pub decreases-calls : goal.decreases-calls
decreases-calls g l = length l.rest
