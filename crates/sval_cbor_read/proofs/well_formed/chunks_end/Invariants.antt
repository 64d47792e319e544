use Rattle.std.proofs.Common.{length, ◌-◌}
use Rattle.sval_cbor_read.proofs.WellFormedFronts.{ChunksPass}
use Rattle.sval_cbor_read.proofs.well_formed.chunks_end.Given as goal

-- the chunks so far are passed over
abbrev pub invariant-loop-at : goal.invariant-loop-at
invariant-loop-at l = ChunksPass l.major l.bytes l.from l.at

abbrev pub decreases-loop-at : goal.decreases-loop-at
decreases-loop-at l = length l.bytes - l.at
