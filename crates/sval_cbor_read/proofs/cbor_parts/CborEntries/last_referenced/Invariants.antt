use Rattle.std.proofs.Common.{◌≡◌, length}
use Rattle.std.specs.Option.{option_or}
use Rattle.sval_cbor_read.specs.CborPointers.{cbor_last_referenced}
use Rattle.sval_cbor_read.proofs.cbor_parts.CborEntries.last_referenced.Given as goal

abbrev pub invariant-loop-entry : goal.invariant-loop-entry
invariant-loop-entry l = option_or (cbor_last_referenced l.token l.left) l.found ≡ cbor_last_referenced l.token l.initial.left

abbrev pub decreases-loop-entry : goal.decreases-loop-entry
decreases-loop-entry l = length l.left
