use Rattle.std.proofs.Common.{length, ◌-◌}
use Rattle.sval_cbor_read.specs.SeenWellFormed.{IsDueAt}
use Rattle.sval_cbor_read.proofs.well_formed.well_formed_end.Given as goal

-- an item is due
abbrev pub invariant-loop-opened : goal.invariant-loop-opened
invariant-loop-opened l = IsDueAt l.bytes l.opened l.at

abbrev pub decreases-loop-opened : goal.decreases-loop-opened
decreases-loop-opened l = length l.bytes - l.at
