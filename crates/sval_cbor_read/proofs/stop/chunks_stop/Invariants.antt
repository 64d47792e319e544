use Rattle.std.proofs.Common.{length, ◌-◌}
use Rattle.sval_cbor_read.proofs.Stops.{ArePassedUpTo}
use Rattle.sval_cbor_read.proofs.stop.chunks_stop.Given as goal

-- the chunks so far are passed over
abbrev pub invariant-loop-at : goal.invariant-loop-at
invariant-loop-at l = ArePassedUpTo l.bytes l.from l.at

abbrev pub decreases-loop-at : goal.decreases-loop-at
decreases-loop-at l = length l.bytes - l.at
