-- What a document's tokens are: for the code that makes their calls.
use Rattle.std.specs.Prelude.{◌≡◌, ℕ, ◌+◌, ◌*◌, Bool, true, false, not, ◌==◌, List, [], ◌∷◌, get_or, Some, ⊤}
use Rattle.std.specs.Char.{digit_value}
use Rattle.std.specs.List.{AllByRecursion}
use Rattle.sval_json.specs.Digits.{is_json_number}
use Rattle.sval_json.specs.Grammar.{is_unescaped, escaped_byte, code_unit, is_high_surrogate, is_low_surrogate, is_surrogate}
use Rattle.sval_json_read.specs.Tokens as token
use Rattle.sval_json_read.specs.Tokens.{Token, Placed}

-- what may stand between the quotes of a string: unescaped bytes and whole escapes
pub data IsRaw : List ℕ → Type 0 where
  done : IsRaw []
  plain : {byte : ℕ} {bytes : List ℕ} → is_unescaped byte ≡ true → IsRaw bytes → IsRaw (byte ∷ bytes)
  short : {letter byte : ℕ} {bytes : List ℕ} → escaped_byte letter ≡ Some byte → IsRaw bytes → IsRaw (92 ∷ letter ∷ bytes)
  unit : {a b c d u : ℕ} {bytes : List ℕ} → code_unit a b c d ≡ Some u → is_surrogate u ≡ false → IsRaw bytes → IsRaw (92 ∷ 117 ∷ a ∷ b ∷ c ∷ d ∷ bytes)
  pair : {a b c d e f g h high low : ℕ} {bytes : List ℕ} → code_unit a b c d ≡ Some high → is_high_surrogate high ≡ true → code_unit e f g h ≡ Some low → is_low_surrogate low ≡ true
      → IsRaw bytes → IsRaw (92 ∷ 117 ∷ a ∷ b ∷ c ∷ d ∷ 92 ∷ 117 ∷ e ∷ f ∷ g ∷ h ∷ bytes)

-- a number is one of JSON, and a string's bytes are raw
abbrev pub IsProperToken : Token → Type 0
IsProperToken (token.Number text) = is_json_number text ≡ true
IsProperToken (token.Text bytes) = IsRaw bytes
IsProperToken _ = ⊤

-- each number of the tokens is one of JSON, and each string's bytes are raw
abbrev pub AreProperTokens : List Placed → Type 0
AreProperTokens tokens = AllByRecursion (λ (placed : Placed). IsProperToken placed.token) tokens

-- the number that the digits from a place on write, where four hex digits stand there
abbrev pub unit_from : List ℕ → ℕ → ℕ
unit_from bytes from = digit_value (get_or bytes from 0) * 4096 + digit_value (get_or bytes (from + 1) 0) * 256 + digit_value (get_or bytes (from + 2) 0) * 16 + digit_value (get_or bytes (from + 3) 0)

-- a byte that begins no escape
abbrev pub is_no_backslash : ℕ → Bool
is_no_backslash byte = not (byte == 92)
