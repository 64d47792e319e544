-- What taking the first of some items or pairs gives.
use Rattle.std.specs.Prelude.{◌≡◌, List, [], ◌∷◌, Option, Some, None}
use Rattle.sval_json.specs.Grammar.{JsonValue}
use Rattle.sval_json_read.specs.Lookups.{Member}
use Rattle.sval_json_read.specs.declared.json_parts.JsonMember as made

-- the first, where there is one, and what is left
abbrev pub TakesFirstPart : Option JsonValue → (old new : List JsonValue) → Type 0
TakesFirstPart None old new = (old ≡ []) × (new ≡ [])
TakesFirstPart (Some value) old new = old ≡ value ∷ new

-- the first pair, where there is one, and what is left
abbrev pub TakesFirstPair : Option made.JsonMember → (old new : List Member) → Type 0
TakesFirstPair None old new = (old ≡ []) × (new ≡ [])
TakesFirstPair (Some member) old new = old ≡ record { name = member.name; value = member.value } ∷ new
