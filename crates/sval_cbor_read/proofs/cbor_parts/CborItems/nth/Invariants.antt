use Rattle.std.proofs.Common.{◌≡◌, length}
use Rattle.std.specs.Prelude.{slice_get}
use Rattle.sval_cbor_read.proofs.cbor_parts.CborItems.nth.Given as goal

abbrev pub invariant-loop-item : goal.invariant-loop-item
invariant-loop-item l = slice_get l.left l.before ≡ slice_get l.initial.left l.index

abbrev pub decreases-loop-item : goal.decreases-loop-item
decreases-loop-item l = length l.left
