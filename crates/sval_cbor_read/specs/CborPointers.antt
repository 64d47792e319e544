-- What a JSON Pointer references in a value of CBOR (RFC 6901).
use Rattle.std.specs.Prelude.{ℕ, Bool, false, if◌then◌else◌, List, [], ◌∷◌, slice_get, Option, Some, None, option_and_then}
use Rattle.std.specs.List.{concat}
use Rattle.std.specs.Str.{bytes_eq}
use Rattle.std.specs.Option.{option_or}
use Rattle.sval_json_read.specs.Pointers.{reference_token, array_index, pointed_by}
use Rattle.sval_cbor_read.specs.CborValues.{CborValue, Text, Array, Map}
use Rattle.sval_cbor_read.specs.CborLookups.{Entry, cbor_values_listed, cbor_paired}

-- a value is a text with this reference token
abbrev pub cbor_has_token : List ℕ → CborValue → Bool
cbor_has_token token (Text chunks) = bytes_eq (reference_token (concat chunks)) token
cbor_has_token token _ = false

-- the value of the last pair whose key is a text with this reference token
abbrev pub cbor_last_referenced : List ℕ → List Entry → Option CborValue
cbor_last_referenced token [] = None
cbor_last_referenced token (entry ∷ entries) =
    option_or (cbor_last_referenced token entries) (if cbor_has_token token entry.key then Some entry.value else None)

-- the value that a reference token references: the item of an array at its index, or the value of the last pair of a map whose key is its text
abbrev pub cbor_referenced : List ℕ → CborValue → Option CborValue
cbor_referenced token (Array values) = option_and_then (λ index. slice_get (cbor_values_listed values) index) (array_index token)
cbor_referenced token (Map values) = cbor_last_referenced token (cbor_paired (cbor_values_listed values))
cbor_referenced token _ = None

-- the value that a pointer references
abbrev pub cbor_pointed : List ℕ → CborValue → Option CborValue
cbor_pointed pointer value = pointed_by cbor_referenced pointer value
