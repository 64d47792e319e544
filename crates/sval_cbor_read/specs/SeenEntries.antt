-- What taking the first of some items or pairs gives.
use Rattle.std.specs.Prelude.{◌≡◌, List, [], ◌∷◌, Option, Some, None}
use Rattle.sval_cbor_read.specs.CborValues.{CborValue}
use Rattle.sval_cbor_read.specs.CborLookups.{Entry}
use Rattle.sval_cbor_read.specs.declared.cbor_parts.CborEntry as made

-- the first item, where there is one, and what is left
abbrev pub TakesFirstItem : Option CborValue → (old new : List CborValue) → Type 0
TakesFirstItem None old new = (old ≡ []) × (new ≡ [])
TakesFirstItem (Some value) old new = old ≡ value ∷ new

-- the first pair, where there is one, and what is left
abbrev pub TakesFirstEntry : Option made.CborEntry → (old new : List Entry) → Type 0
TakesFirstEntry None old new = (old ≡ []) × (new ≡ [])
TakesFirstEntry (Some entry) old new = old ≡ record { key = entry.key; value = entry.value } ∷ new
