use Rattle.std.proofs.Common.{length}
use Rattle.sval_tape.proofs.TapeStreams.{IsReadUpTo}
use Rattle.sval_tape.proofs.tape.Tape.read.Given as goal

abbrev pub invariant-calls : goal.invariant-calls
invariant-calls l = IsReadUpTo l.bytes l.rest

abbrev pub decreases-calls : goal.decreases-calls
decreases-calls l = length l.rest
