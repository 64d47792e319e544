-- What reading the first value of some bytes answers.
use Rattle.std.specs.Prelude.{◌≡◌, ℕ, ◌+◌, ◌-◌, ◌<◌, ◌≤◌, true, false, List, length, take, get_or, IsUtf8}
use Rattle.std.specs.Str.{IsValidUpTo}
use Rattle.sval_json.specs.Grammar.{JsonValue, is_space, Denotes}
use Rattle.sval_json.specs.Fronts.{IsFront, FailsAt}
use Rattle.sval_json_read.specs.declared.document.ReadError.{ReadError}
use Rattle.sval_json_read.specs.declared.document.ReadError.TheVariants.{NotUtf8, BadJson, NoMemory}
use Rattle.sval_json_read.specs.ReadErrors.{KeepsSome}

-- a value that the first `used` bytes denote ends with them: the last one is no white space, and no text that denotes a value has one byte more of these, but white space
pub record EndsFront (bytes : List ℕ) (used : ℕ) : Type 0 where
  pub within : used ≤ length bytes
  pub no_space_behind : is_space (get_or bytes (used - 1) 0) ≡ false
  pub goes_no_further : used < length bytes → IsFront (take (used + 1) bytes) → is_space (get_or bytes used 0) ≡ true

-- no first bytes denote a value that ends with them
abbrev pub HasNoFront : List ℕ → Type 0
HasNoFront bytes = (value : JsonValue) (used : ℕ) → Denotes (take used bytes) value → EndsFront bytes used → ⊥

-- no first bytes denote a value, and n is where they fail
pub record IsBadJsonFront (bytes : List ℕ) (n : ℕ) : Type 0 where
  pub has_none : HasNoFront bytes
  pub fails_at : FailsAt bytes n

-- the cause of each error of a text, which is UTF-8
abbrev pub IsTextFrontError : List ℕ → ReadError → Type 0
IsTextFrontError bytes (NotUtf8 at) = ⊥
IsTextFrontError bytes (BadJson at) = IsBadJsonFront bytes at
IsTextFrontError bytes NoMemory = KeepsSome bytes

-- the cause of each error: no first bytes denote a value, and they fail where they are UTF-8 no longer, or elsewhere, or some node is kept of them
abbrev pub IsJsonFrontError : List ℕ → ReadError → Type 0
IsJsonFrontError bytes (NotUtf8 at) = (IsUtf8 bytes → ⊥) × IsValidUpTo bytes at × IsBadJsonFront bytes at
IsJsonFrontError bytes (BadJson at) = IsBadJsonFront bytes at × (IsValidUpTo bytes at → ⊥)
IsJsonFrontError bytes NoMemory = KeepsSome bytes
