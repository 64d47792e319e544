-- A value of a document, taken by itself.
use Rattle.std.specs.Prelude.{◌≡◌, ℕ, List, [], ◌∷◌}
use Rattle.sval_json.specs.Grammar.{JsonValue, IsValue}
use Rattle.sval_json_read.specs.Tokens.{Alone, Placed, placed_at, tokens_of}

-- tokens whose last is by itself
abbrev pub last_alone : List Placed → List Placed
last_alone [] = []
last_alone (placed ∷ []) = placed_at Alone placed.token ∷ []
last_alone (placed ∷ (next ∷ tokens)) = placed ∷ last_alone (next ∷ tokens)

-- the tokens of a value with no array and no object around it: the first and the last are by themselves
abbrev pub by_itself : List Placed → List Placed
by_itself [] = []
by_itself (placed ∷ tokens) = last_alone (placed_at Alone placed.token ∷ tokens)

-- these are all tokens of this value, by itself
pub record IsPart (tokens : List Placed) (value : JsonValue) : Type 0 where
  pub bytes : List ℕ
  pub rest : List ℕ
  pub is_value : IsValue bytes value rest
  pub same : tokens ≡ tokens_of Alone is_value
