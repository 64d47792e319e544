-- When two texts that are the JSON of values are equal, and what they feed a hasher.
use Rattle.std.specs.Prelude.{◌≡◌, Bool}
use Rattle.std.specs.Bool.{Decides}
use Rattle.std.specs.Str.{bytes_eq}
use Rattle.std.specs.Cmp.{IsEquivalence}
use Rattle.std.specs.Hash.{HashWrites, Alike, str}
use Rattle.sval_json.specs.declared.json_str.JsonStr.{JsonStr}
use Rattle.sval_json.specs.JsonTexts.{json_text}

-- two of them by their bytes
abbrev pub same_json : JsonStr → JsonStr → Bool
same_json a b = bytes_eq (json_text a) (json_text b)

-- one of them feeds its bytes, as a text does
abbrev pub json_writes : JsonStr → HashWrites
json_writes json = str (json_text json)

-- those that are equal have equal bytes, and are hashed alike
pub record JsonStrsByTexts : Type 0 where
  pub decides : (a b : JsonStr) → Decides (same_json a b) (json_text a ≡ json_text b)
  pub equivalence : IsEquivalence same_json
  pub hashed : Alike same_json json_writes
