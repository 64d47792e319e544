-- The flat list of a text's tokens, each with the place that it stands in.
use Rattle.std.specs.Prelude.{ℕ, Bool, true, false, List, [], ◌∷◌, ◌++◌}
use Rattle.sval_json.specs.Grammar as json
use Rattle.sval_json.specs.Grammar.{JsonValue, Values, Members, IsString, close, unescaped, escape, unit, pair, IsValue, AreJsonValues, last_value, more_values, AreMembers, last_member, more_members}

-- by itself, an item of an array, or the key or the value of a pair of an object
pub data Place : Type 0 where
  Alone : Place
  Item : Place
  Key : Place
  Value : Place

-- a number has its text, and a string the bytes between its quotes as they stand
pub data Token : Type 0 where
  Null : Token
  Truth : Bool → Token
  Number : List ℕ → Token
  Text : List ℕ → Token
  BeginArray : Token
  EndArray : Token
  BeginObject : Token
  EndObject : Token

-- both tokens of an array or object have its place
pub record Placed : Type 0 where
  pub place : Place
  pub token : Token

-- the token in this place
abbrev pub placed_at : Place → Token → Placed
placed_at place token = record { place = place; token = token }

-- the bytes of a string before its closing quote
abbrev pub between_quotes : {bytes text rest : List ℕ} → IsString bytes text rest → List ℕ
between_quotes close = []
between_quotes (unescaped {byte = byte} _ string) = byte ∷ between_quotes string
between_quotes (escape {letter = letter} _ string) = 92 ∷ letter ∷ between_quotes string
between_quotes (unit {a = a} {b = b} {c = c} {d = d} _ _ string) = 92 ∷ 117 ∷ a ∷ b ∷ c ∷ d ∷ between_quotes string
between_quotes (pair {a = a} {b = b} {c = c} {d = d} {e = e} {f = f} {g = g} {h = h} _ _ _ _ string) =
    92 ∷ 117 ∷ a ∷ b ∷ c ∷ d ∷ 92 ∷ 117 ∷ e ∷ f ∷ g ∷ h ∷ between_quotes string

abbrev mutual
  -- the tokens of a value that stands in this place
  pub tokens_of : {bytes rest : List ℕ} {value : JsonValue} → Place → IsValue bytes value rest → List Placed
  tokens_of place json.null = placed_at place Null ∷ []
  tokens_of place json.truth = placed_at place (Truth true) ∷ []
  tokens_of place json.falsehood = placed_at place (Truth false) ∷ []
  tokens_of place (json.number {text = text} _ _) = placed_at place (Number text) ∷ []
  tokens_of place (json.string string) = placed_at place (Text (between_quotes string)) ∷ []
  tokens_of place (json.empty_array _) = placed_at place BeginArray ∷ placed_at place EndArray ∷ []
  tokens_of place (json.array values) = placed_at place BeginArray ∷ (item_tokens values ++ (placed_at place EndArray ∷ []))
  tokens_of place (json.empty_object _) = placed_at place BeginObject ∷ placed_at place EndObject ∷ []
  tokens_of place (json.object members) = placed_at place BeginObject ∷ (pair_tokens members ++ (placed_at place EndObject ∷ []))

  -- the tokens of an array's items, in order
  pub item_tokens : {bytes rest : List ℕ} {values : Values} → AreJsonValues bytes values rest → List Placed
  item_tokens (last_value value _) = tokens_of Item value
  item_tokens (more_values value _ values) = tokens_of Item value ++ item_tokens values

  -- the tokens of an object's pairs, in order, each its key and then its value
  pub pair_tokens : {bytes rest : List ℕ} {members : Members} → AreMembers bytes members rest → List Placed
  pair_tokens (last_member key _ value _) = placed_at Key (Text (between_quotes key)) ∷ tokens_of Value value
  pair_tokens (more_members key _ value _ members) = placed_at Key (Text (between_quotes key)) ∷ (tokens_of Value value ++ pair_tokens members)
