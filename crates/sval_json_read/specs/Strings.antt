-- The machine that reads a string after its opening quote, byte by byte (RFC 8259, section 7).
use Rattle.std.specs.Prelude.{ℕ, Bool, false, ◌&&◌, ◌==◌, nat_lt, nat_le, if◌then◌else◌, Option, Some, None, is_some}
use Rattle.std.specs.Char.{is_digit, digit_value}
use Rattle.sval_json.specs.Grammar.{is_unescaped, escaped_byte}

-- where in a string the machine is
pub data Within : Type 0 where
  -- outside escapes
  Plain : Within
  -- after a backslash, after its `u`, and after the digit D of a unit
  Backslash : Within
  Unit : Within
  UnitD : Within
  -- so many digits are left of a unit that is no surrogate
  ThreeLeft : Within
  TwoLeft : Within
  OneLeft : Within
  -- so many digits are left of a high surrogate
  HighTwoLeft : Within
  HighOneLeft : Within
  -- after a high surrogate: the backslash, the `u` and the D of a low one must follow
  High : Within
  LowBackslash : Within
  LowUnit : Within
  LowD : Within
  -- so many digits are left of a low surrogate
  LowTwoLeft : Within
  LowOneLeft : Within

-- this state, where the test holds
abbrev pub within_when : Bool → Within → Option Within
within_when test within = if test then Some within else None

-- a hex digit, in either case
abbrev pub is_hex : ℕ → Bool
is_hex byte = is_digit byte 16

-- D or d, with which surrogates begin
abbrev pub is_d : ℕ → Bool
is_d byte = digit_value byte == 13

-- one more byte, other than the closing quote. After D a digit up to 7 makes no surrogate, 8 to B a high one, C to F a low one
abbrev pub next_within : Within → ℕ → Option Within
next_within Plain byte = if is_unescaped byte then Some Plain else within_when (byte == 92) Backslash
next_within Backslash byte = if byte == 117 then Some Unit else within_when (is_some (escaped_byte byte)) Plain
next_within Unit byte = if is_d byte then Some UnitD else within_when (is_hex byte) ThreeLeft
next_within UnitD byte = if nat_lt (digit_value byte) 8 then Some TwoLeft else within_when (nat_lt (digit_value byte) 12) HighTwoLeft
next_within ThreeLeft byte = within_when (is_hex byte) TwoLeft
next_within TwoLeft byte = within_when (is_hex byte) OneLeft
next_within OneLeft byte = within_when (is_hex byte) Plain
next_within HighTwoLeft byte = within_when (is_hex byte) HighOneLeft
next_within HighOneLeft byte = within_when (is_hex byte) High
next_within High byte = within_when (byte == 92) LowBackslash
next_within LowBackslash byte = within_when (byte == 117) LowUnit
next_within LowUnit byte = within_when (is_d byte) LowD
next_within LowD byte = within_when (nat_le 12 (digit_value byte) && is_hex byte) LowTwoLeft
next_within LowTwoLeft byte = within_when (is_hex byte) LowOneLeft
next_within LowOneLeft byte = within_when (is_hex byte) Plain

-- the quote that ends the string
abbrev pub closes_string : Within → ℕ → Bool
closes_string Plain byte = byte == 34
closes_string _ byte = false
