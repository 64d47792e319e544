-- The machine that reads a number byte by byte (RFC 8259, section 6).
use Rattle.std.specs.Prelude.{ℕ, Bool, true, false, ◌==◌, if◌then◌else◌, Option, Some, None}
use Rattle.std.specs.Char.{is_ascii_digit}
use Rattle.sval_json.specs.Digits.{minus, point, zero_digit, is_sign, is_exponent_mark}

-- what of a number was read last
pub data NumberPhase : Type 0 where
  Minus : NumberPhase
  -- a zero in front, which stands alone, or other integral digits
  Zero : NumberPhase
  Whole : NumberPhase
  Point : NumberPhase
  -- digits behind the point
  Fraction : NumberPhase
  -- the exponent's mark, its sign, and its digits
  Mark : NumberPhase
  Sign : NumberPhase
  Power : NumberPhase

-- whether the number may end here
abbrev pub number_may_end : NumberPhase → Bool
number_may_end Minus = false
number_may_end Zero = true
number_may_end Whole = true
number_may_end Point = false
number_may_end Fraction = true
number_may_end Mark = false
number_may_end Sign = false
number_may_end Power = true

-- this phase, where the test holds
abbrev pub phase_when : Bool → NumberPhase → Option NumberPhase
phase_when test phase = if test then Some phase else None

-- integral digits begin: a zero stands alone
abbrev pub first_digit : ℕ → Option NumberPhase
first_digit byte = if byte == zero_digit then Some Zero else phase_when (is_ascii_digit byte) Whole

-- a number begins
abbrev pub first_phase : ℕ → Option NumberPhase
first_phase byte = if byte == minus then Some Minus else first_digit byte

-- an exponent begins, with its mark
abbrev pub exponent_begins : ℕ → Option NumberPhase
exponent_begins byte = phase_when (is_exponent_mark byte) Mark

-- after the integral digits a fraction begins, with its point, or an exponent
abbrev pub tail_begins : ℕ → Option NumberPhase
tail_begins byte = if byte == point then Some Point else exponent_begins byte

-- one more byte of the number
abbrev pub next_phase : NumberPhase → ℕ → Option NumberPhase
next_phase Minus byte = first_digit byte
next_phase Zero byte = tail_begins byte
next_phase Whole byte = if is_ascii_digit byte then Some Whole else tail_begins byte
next_phase Point byte = phase_when (is_ascii_digit byte) Fraction
next_phase Fraction byte = if is_ascii_digit byte then Some Fraction else exponent_begins byte
next_phase Mark byte = if is_sign byte then Some Sign else phase_when (is_ascii_digit byte) Power
next_phase Sign byte = phase_when (is_ascii_digit byte) Power
next_phase Power byte = phase_when (is_ascii_digit byte) Power
