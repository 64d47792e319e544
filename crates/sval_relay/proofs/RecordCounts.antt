-- The number of records that a word asks for, as `parse` reads it.
use Rattle.std.specs.Prelude.{◌≡◌, ◌≢◌, ℕ, ◌^◌, ◌<◌, nat_le, Bool, true, false, List, [], ◌∷◌, length, get_or, Some, None, if◌then◌else◌, option_and_then, Result, Ok, Err, refl}
use Rattle.std.specs.Bool.{then_some}
use Rattle.std.specs.Str.{all_ascii_digits}
use Rattle.std.specs.Str.Parse.{digits_value, ParsesUnsigned}
use Rattle.std.specs.Result.{OkIff, result_ok}
use Rattle.std.proofs.Common.{arith, ap, ◌∙◌}
use Rattle.std.proofs.lemmas.Bool.Decides.{nat_tests}
use Rattle.std.proofs.lemmas.Str.Parse.{parse_plain}
use Rattle.sval_label.specs.Texts.{is_decimal}
use Rattle.sval_script.specs.Lines.{keep}
use Rattle.sval_script.proofs.Decimals.{own, decimal-digits, decimal-from}
use Rattle.sval_relay.specs.Ways.{records_named}

-- a number that doesn't fit is too great
too_many : (n : ℕ) → (n < 2 ^ 32 → ⊥) → None ≡ keep (λ n. nat_le n 50000) n
too_many n large = grind (arith, nat_tests)

refused : (word : List ℕ) → ((all_ascii_digits word ≡ true) × (0 < length word) × (digits_value 10 word < 2 ^ 32) → ⊥) → (b : Bool) → is_decimal word ≡ b → None ≡ records_named word
refused word never false e = rw e refl
refused word never true e =
    let digits = decimal-digits word e in rw e (too_many (digits_value 10 word) (λ small. never (digits.0, digits.1, small)))

by_answer : {E : Type 0} (first : ℕ) (rest : List ℕ) (r : Result ℕ E) → first ≢ 48
    → OkIff r ((all_ascii_digits (first ∷ rest) ≡ true) × (0 < length (first ∷ rest)) × (digits_value 10 (first ∷ rest) < 2 ^ 32)) (digits_value 10 (first ∷ rest))
    → option_and_then (keep (λ n. nat_le n 50000)) (result_ok r) ≡ records_named (first ∷ rest)
by_answer first rest (Ok n) other (fits, is) = rw (decimal-from first rest other fits.0) (ap (keep (λ n. nat_le n 50000)) is)
by_answer first rest (Err why) other never = refused (first ∷ rest) never (is_decimal (first ∷ rest)) refl

-- what is kept of a number
pub kept : (n : ℕ) → then_some (nat_le n 50000) n ≡ keep (λ n. nat_le n 50000) n
kept n = go (nat_le n 50000)
  where
    go : (b : Bool) → then_some b n ≡ if b then Some n else None
    go true = refl
    go false = refl

-- a word that begins neither with 0 nor with a sign asks for the number that it parses as, if that isn't too great
pub records_parsed : {E : Type 0} (word : List ℕ) (first : ℕ) (r : Result ℕ E) → (0 < length word) × ((d : ℕ) → first ≡ get_or word 0 d) → first ≢ 48 → first ≢ 43 → ParsesUnsigned 32 10 word r
    → option_and_then (keep (λ n. nat_le n 50000)) (result_ok r) ≡ records_named word
records_parsed [] first r (some, is) other no_sign p = absurd (omega (arith, some))
records_parsed (byte ∷ rest) first r (some, is) other no_sign p =
    by_answer byte rest r (λ zero. other (is 0 ∙ zero)) (parse_plain own 32 (byte ∷ rest) r p (λ sign. no_sign (is 0 ∙ sign)))
