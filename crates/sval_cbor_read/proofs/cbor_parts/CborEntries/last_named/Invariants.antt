use Rattle.std.proofs.Common.{◌≡◌, length}
use Rattle.std.specs.Option.{option_or}
use Rattle.sval_cbor_read.specs.CborLookups.{cbor_last_named}
use Rattle.sval_cbor_read.proofs.cbor_parts.CborEntries.last_named.Given as goal

abbrev pub invariant-loop-entry : goal.invariant-loop-entry
invariant-loop-entry l = option_or (cbor_last_named l.name l.left) l.found ≡ cbor_last_named l.name l.initial.left

abbrev pub decreases-loop-entry : goal.decreases-loop-entry
decreases-loop-entry l = length l.left
