-- What a buffer with room is enough for.
use Rattle.std.specs.Prelude.{◌≡◌, ◌≤◌, false, length, Result, Ok}
use Rattle.sval_core.specs.Law.{Emission}
use Rattle.sval_core.specs.Spells.{Spells}
use Rattle.sval_core.specs.Trees.{Tree}
use Rattle.sval_io.specs.Filled.{Filled, room_of, filled_told}
use Rattle.sval_json.specs.declared.style.Variants.{Variants}
use Rattle.sval_json.specs.declared.error.ErrorKind.{ErrorKind}
use Rattle.sval_json.specs.Json.{Json, compact}
use Rattle.sval_json.specs.Shape.{json_in}
use Rattle.sval_json.specs.Written.{StreamsJson}

-- the value doesn't refuse, and its calls spell a tree that has this JSON shape in this style
pub record EmitsJson (style : Variants) (emission : Emission) (json : Json) : Type 0 where
  pub refuses : emission.refuses ≡ false
  pub tree : Tree
  pub spells : Spells emission.calls tree
  pub shape : json_in style tree ≡ Ok json

-- over a buffer with room for the text, a value that doesn't refuse and whose calls spell a tree with a JSON shape is streamed,
-- whatever memory there is
abbrev pub RoomIsEnough : Type 0
RoomIsEnough = (style : Variants) (emission : Emission) (result : Result (Unit {0}) ErrorKind) (old new : Filled) → StreamsJson style emission result (filled_told old) (filled_told new)
    → (json : Json) → EmitsJson style emission json → length (compact json) ≤ room_of old → result ≡ Ok tt
