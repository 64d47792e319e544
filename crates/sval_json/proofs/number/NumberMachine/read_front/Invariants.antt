use Rattle.std.proofs.Common.{length}
use Rattle.sval_json.proofs.Readings.{LeadsOn}
use Rattle.sval_json.proofs.number.NumberMachine.read_front.Given as goal

abbrev pub invariant-loop-byte : goal.invariant-loop-byte
invariant-loop-byte l = LeadsOn l.fn.self l.machine l.bytes l.rest

abbrev pub decreases-loop-byte : goal.decreases-loop-byte
decreases-loop-byte l = length l.rest
