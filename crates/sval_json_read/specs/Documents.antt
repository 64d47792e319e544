-- What reading bytes gives: a document, or the place where they fail.
use Rattle.std.specs.Prelude.{◌≡◌, ℕ, List, IsUtf8}
use Rattle.sval_json.specs.Grammar.{JsonValue, Denotes}
use Rattle.sval_json.specs.Fronts.{FailsAt}
use Rattle.sval_json_read.specs.Tokens.{Placed, Alone, tokens_of}

-- the bytes denote a value, and these are their tokens
pub record IsDocument (bytes : List ℕ) (tokens : List Placed) : Type 0 where
  pub value : JsonValue
  pub denotes : Denotes bytes value
  pub same : tokens ≡ tokens_of Alone denotes.is_value

-- the bytes are UTF-8 and denote no value, and n is where they fail
pub record IsBadJson (bytes : List ℕ) (n : ℕ) : Type 0 where
  pub utf8 : IsUtf8 bytes
  pub denotes_none : (value : JsonValue) → Denotes bytes value → ⊥
  pub fails_at : FailsAt bytes n
