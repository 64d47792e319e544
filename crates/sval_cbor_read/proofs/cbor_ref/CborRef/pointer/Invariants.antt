use Rattle.std.proofs.Common.{◌≡◌, [], length, IsUtf8}
use Rattle.sval_json_read.specs.Pointers.{evaluated}
use Rattle.sval_cbor_read.specs.CborPointers.{cbor_referenced, cbor_pointed}
use Rattle.sval_cbor_read.proofs.cbor_ref.CborRef.pointer.Given as goal

-- the rest of the pointer references in what was found what the whole does
abbrev pub invariant-tokens : goal.invariant-tokens
invariant-tokens l = (cbor_pointed l.fn.pointer l.fn.self ≡ evaluated cbor_referenced [] l.rest l.found) × IsUtf8 l.rest

abbrev pub decreases-tokens : goal.decreases-tokens
decreases-tokens l = length l.rest
