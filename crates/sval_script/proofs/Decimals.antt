-- Decimals, as `parse` reads them.
use Rattle.std.specs.Prelude.{◌≡◌, ◌≢◌, ℕ, ◌^◌, ◌<◌, nat_lt, true, List, [], ◌∷◌, length, Option, Some, None, option_and_then, Result, Ok, Err, refl}
use Rattle.std.specs.List.{list_all}
use Rattle.std.specs.Int.{is_in_range}
use Rattle.std.specs.Char.{is_ascii_digit}
use Rattle.std.specs.Str.{all_ascii_digits, IsUtf8}
use Rattle.std.specs.Str.Parse.{digits_value, ParsesUnsigned}
use Rattle.std.specs.Result.{OkIff, result_ok}
use Rattle.std.proofs.Common.{arith, ap, ◌∙◌, inl, inr}
use Rattle.std.proofs.lemmas.Bool.{and_parts, lt-ltb, le-ltb, cases_lt}
use Rattle.std.proofs.lemmas.Bool.Decides.{nat_tests}
use Rattle.std.proofs.lemmas.Str.{IsUtf8-from_ascii}
use Rattle.std.proofs.lemmas.Str.Parse.{IsNumeralModel, numerals_by_value, tells_all_ascii_digits, parse_digits}
use Rattle.std.proofs.lemmas.Fmt.{IsAscii-from_digits}
use Rattle.sval_label.specs.Texts.{is_decimal}
use Rattle.sval_script.specs.Lines.{keep, natural}

pub digits_are_all : (bytes : List ℕ) → list_all is_ascii_digit bytes ≡ all_ascii_digits bytes
digits_are_all [] = refl
digits_are_all (byte ∷ bytes) = rw (digits_are_all bytes) refl

digit-above : (digit : ℕ) → is_in_range 49 57 digit ≡ true → is_ascii_digit digit ≡ true
digit-above digit h = grind (arith, nat_tests)

-- a decimal is digits, and at least one
pub decimal-digits : (field : List ℕ) → is_decimal field ≡ true → (all_ascii_digits field ≡ true) × (0 < length field)
decimal-digits [] h = cc h
decimal-digits (digit ∷ []) h = (rw h refl, omega arith)
decimal-digits (digit ∷ next ∷ digits) h =
    let (a, b) = and_parts (is_in_range 49 57 digit) (all_ascii_digits (next ∷ digits)) h in
    (rw (digit-above digit a) b, omega arith)

-- digits of which the first isn't 0 are a decimal
pub decimal-from : (first : ℕ) (rest : List ℕ) → first ≢ 48 → all_ascii_digits (first ∷ rest) ≡ true → is_decimal (first ∷ rest) ≡ true
decimal-from first [] other digits = (and_parts (is_ascii_digit first) true digits).0
decimal-from first (next ∷ more) other digits =
    let (one, all) = and_parts (is_ascii_digit first) (all_ascii_digits (next ∷ more)) digits in
    let above : is_in_range 49 57 first ≡ true = grind (arith, nat_tests) in rw above all

pub own : IsNumeralModel (λ ds. all_ascii_digits ds ≡ true) (digits_value 10)
own = numerals_by_value (λ ds. all_ascii_digits ds ≡ true) tells_all_ascii_digits

pub decimal_is_utf8 : (field : List ℕ) → is_decimal field ≡ true → IsUtf8 field
decimal_is_utf8 field h = IsUtf8-from_ascii field (IsAscii-from_digits field (own.to field (decimal-digits field h).0))

-- the number, if it has so many bits
abbrev pub natural_of : ℕ → List ℕ → Option ℕ
natural_of bits field = option_and_then (keep (λ n. nat_lt n (2 ^ bits))) (natural field)

pub parsed : {E : Type 0} (bits : ℕ) (field : List ℕ) (r : Result ℕ E) → is_decimal field ≡ true → ParsesUnsigned bits 10 field r → result_ok r ≡ natural_of bits field
parsed bits field r h p =
    let (digits, some) = decimal-digits field h in
    rw h (by_size bits r (parse_digits own bits field r p digits))
  where
    by_size : {E : Type 0} (bits : ℕ) (r : Result ℕ E) → OkIff r ((0 < length field) × (digits_value 10 field < 2 ^ bits)) (digits_value 10 field)
        → result_ok r ≡ keep (λ n. nat_lt n (2 ^ bits)) (digits_value 10 field)
    by_size bits (Ok n) (fits, is) = rw (lt-ltb (digits_value 10 field) (2 ^ bits) fits.1) (ap Some is)
    by_size bits (Err e) never = elim (cases_lt (digits_value 10 field) (2 ^ bits)) [ inl fits ↦ absurd (never ((decimal-digits field h).1, fits)) | inr above ↦ rw (le-ltb (digits_value 10 field) (2 ^ bits) above) refl ]
