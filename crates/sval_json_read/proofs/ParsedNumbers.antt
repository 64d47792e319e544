-- A number is an `i64` or an `i128` exactly where `parse` reads one.
use Rattle.std.specs.Prelude.{◌≡◌, ℕ, zero, suc, ◌^◌, ◌<◌, ◌≤◌, ◌≢◌, ℤ, pos, neg_ℤ, Bool, true, false, ◌&&◌, ◌==◌, nat_lt, List, ◌∷◌, length, Result, Ok, Err, OkIff, refl}
use Rattle.std.specs.Char.{is_ascii_digit}
use Rattle.std.specs.Str.{all_ascii_digits}
use Rattle.std.specs.Str.Parse.{digits_value, ParsesSigned}
use Rattle.std.proofs.Common.{sym, ap, subst, ◌∙◌, arith}
use Rattle.std.proofs.lemmas.Bool.{and_parts, and_from}
use Rattle.std.proofs.lemmas.Bool.Decides.{nat_tests}
use Rattle.std.proofs.lemmas.Str.Parse.{IsNumeralModel, numerals_by_value, tells_all_ascii_digits, parse_signed_minus, parse_signed_plain}
use lib.Pow.{pow_pos}
use mir.Syntax.{Width}
use mir.Val.{hbits}
use Rattle.sval_label.specs.Ranges.{is_signed}
use Rattle.sval_label.specs.Texts.{is_empty, is_decimal}
use Rattle.sval_json.specs.Digits.{minus, digits_of, after_digits, is_json_number}
use Rattle.sval_json.proofs.NumberGrammar.{all_in_front}
use Rattle.sval_json_read.specs.Trees.{has_no_fraction, whole_value}
use Rattle.sval_json_read.proofs.SettledNumbers.{IsUnsigned, Signed, negative, positive, signed, some_digits, whole_digits, no_number_there, digit_first}
use Rattle.sval_json.proofs.NumberTexts.{decimal_digits}
use Rattle.sval_json_read.proofs.StringSteps.{below}

-- a number without a fraction and an exponent, in the range of the signed numbers with so many bits beside the sign
abbrev pub fits_signed : ℕ → List ℕ → Bool
fits_signed bits text = has_no_fraction text && is_signed bits (whole_value text)

-- what `parse` answers, where the text is a number of JSON
abbrev pub ReadsSigned : {E : Type 0} → ℕ → List ℕ → Result ℤ E → Type 0
ReadsSigned bits text (Ok n) = (fits_signed bits text ≡ true) × (n ≡ whole_value text)
ReadsSigned bits text (Err e) = fits_signed bits text ≡ false

pub own : IsNumeralModel (λ ds. all_ascii_digits ds ≡ true) (digits_value 10)
own = numerals_by_value (λ ds. all_ascii_digits ds ≡ true) tells_all_ascii_digits

abbrev AreDigits : ℕ → List ℕ → Type 0
AreDigits most unsigned = (all_ascii_digits unsigned ≡ true) × (0 < length unsigned) × (digits_value 10 unsigned < most)

-- the digits of a number without a tail
pub none_after : (unsigned : List ℕ) → all_ascii_digits unsigned ≡ true → (digits_of unsigned ≡ unsigned) × (is_empty (after_digits unsigned) ≡ true)
none_after unsigned h = let (e, f) = all_in_front is_ascii_digit unsigned h in (e, ap is_empty f)

pub all_of_whole : (unsigned : List ℕ) → is_decimal (digits_of unsigned) ≡ true → is_empty (after_digits unsigned) ≡ true → (all_ascii_digits unsigned ≡ true) × (0 < length unsigned)
all_of_whole unsigned d e =
    let k = whole_digits unsigned e in
    let f = subst (λ x. is_decimal x ≡ true) k d in (decimal_digits unsigned f, some_digits unsigned f)

pub in_range_test : (n m : ℕ) → n < m → nat_lt n m ≡ true
in_range_test n m h = grind (arith, nat_tests)

pub no_sign : (byte : ℕ) → is_ascii_digit byte ≡ true → (byte ≢ 43) × (byte ≢ 45)
no_sign byte h = (λ e. grind (arith, nat_tests), λ e. grind (arith, nat_tests))

positive_value : (byte : ℕ) (bytes : List ℕ) → (byte == minus) ≡ false → whole_value (byte ∷ bytes) ≡ pos (digits_value 10 (digits_of (byte ∷ bytes)))
positive_value byte bytes m = rw m refl

negative_fits : (bits n : ℕ) → n ≤ 2 ^ bits → is_signed bits (neg_ℤ (pos n)) ≡ true
negative_fits bits zero h = in_range_test 0 (2 ^ bits) (pow_pos bits)
negative_fits bits (suc n) h = in_range_test n (2 ^ bits) (omega arith)

fits_negative : (bits n : ℕ) → is_signed bits (neg_ℤ (pos n)) ≡ true → n ≤ 2 ^ bits
fits_negative bits zero h = omega arith
fits_negative bits (suc n) h = let l = below n (2 ^ bits) h in omega arith

module _ (width : Width) where
  -- an answer by whether its condition holds, and its condition by a test
  by_test : {E : Type 0} (text : List ℕ) (P : Type 0) (value : ℤ) (r : Result ℤ E) → OkIff r P value → (P → fits_signed (hbits width) text ≡ true) → (fits_signed (hbits width) text ≡ true → P)
      → (P → value ≡ whole_value text) → ReadsSigned (hbits width) text r
  by_test text P value (Ok n) h f g e = (f h.0, h.1 ∙ e h.0)
  by_test text P value (Err x) h f g e = go (fits_signed (hbits width) text) refl
    where
      go : (b : Bool) → fits_signed (hbits width) text ≡ b → b ≡ false
      go true k = absurd (h (g k))
      go false k = refl

  negative_reads : {E : Type 0} (unsigned : List ℕ) (r : Result ℤ E) → IsUnsigned (minus ∷ unsigned) unsigned → ParsesSigned width 10 (minus ∷ unsigned) r → ReadsSigned (hbits width) (minus ∷ unsigned) r
  negative_reads unsigned r u h =
      by_test (minus ∷ unsigned) ((all_ascii_digits unsigned ≡ true) × (0 < length unsigned) × (digits_value 10 unsigned ≤ 2 ^ hbits width)) (neg_ℤ (pos (digits_value 10 unsigned))) r
      (parse_signed_minus own width (minus ∷ unsigned) r h refl)
      (λ p. let k = none_after unsigned p.0 in
      and_from (is_empty (after_digits unsigned)) (is_signed (hbits width) (neg_ℤ (pos (digits_value 10 (digits_of unsigned))))) k.1
      (subst (λ x. is_signed (hbits width) (neg_ℤ (pos (digits_value 10 x))) ≡ true) (sym k.0) (negative_fits (hbits width) (digits_value 10 unsigned) p.2)))
      (λ t. let (w, o) = and_parts (is_empty (after_digits unsigned)) (is_signed (hbits width) (neg_ℤ (pos (digits_value 10 (digits_of unsigned))))) t in
      let d = all_of_whole unsigned u.decimal_part w in
      (d.0, d.1, subst (λ x. digits_value 10 x ≤ 2 ^ hbits width) (whole_digits unsigned w) (fits_negative (hbits width) (digits_value 10 (digits_of unsigned)) o)))
      (λ p. ap (λ x. neg_ℤ (pos (digits_value 10 x))) (sym (none_after unsigned p.0).0))

  positive_reads : {E : Type 0} (byte : ℕ) (bytes : List ℕ) (r : Result ℤ E) → (byte == minus) ≡ false → IsUnsigned (byte ∷ bytes) (byte ∷ bytes) → ParsesSigned width 10 (byte ∷ bytes) r
      → ReadsSigned (hbits width) (byte ∷ bytes) r
  positive_reads byte bytes r m u h =
      let text : List ℕ = byte ∷ bytes in
      let n = no_sign byte (digit_first text u.decimal_part) in
      let w = no_number_there byte bytes m in
      by_test text ((all_ascii_digits text ≡ true) × (0 < length text) × (digits_value 10 text < 2 ^ hbits width)) (pos (digits_value 10 text)) r
      (parse_signed_plain own width text r h n.0 n.1)
      (λ p. let k = none_after text p.0 in
      and_from (has_no_fraction text) (is_signed (hbits width) (whole_value text)) (subst (λ x. is_empty (after_digits x) ≡ true) (sym w) k.1)
      (subst (λ z. is_signed (hbits width) z ≡ true) (sym (positive_value byte bytes m ∙ ap (λ x. pos (digits_value 10 x)) k.0)) (in_range_test (digits_value 10 text) (2 ^ hbits width) p.2)))
      (λ t. let (e, o) = and_parts (has_no_fraction text) (is_signed (hbits width) (whole_value text)) t in
      let f = subst (λ x. is_empty (after_digits x) ≡ true) w e in
      let d = all_of_whole text u.decimal_part f in
      let l = below (digits_value 10 (digits_of text)) (2 ^ hbits width) (subst (λ z. is_signed (hbits width) z ≡ true) (positive_value byte bytes m) o) in
      (d.0, d.1, subst (λ x. digits_value 10 x < 2 ^ hbits width) (whole_digits text f) l))
      (λ p. sym (positive_value byte bytes m ∙ ap (λ x. pos (digits_value 10 x)) (none_after text p.0).0))

  reads : {E : Type 0} {text : List ℕ} (r : Result ℤ E) → Signed text → ParsesSigned width 10 text r → ReadsSigned (hbits width) text r
  reads r (negative {unsigned = unsigned} u) h = negative_reads unsigned r u h
  reads r (positive {byte = byte} {bytes = bytes} m u) h = positive_reads byte bytes r m u h

  -- for `parse::<i64>()` and `parse::<i128>()` of a number of JSON
  pub parse-reads : {E : Type 0} (text : List ℕ) (r : Result ℤ E) → is_json_number text ≡ true → ParsesSigned width 10 text r → ReadsSigned (hbits width) text r
  parse-reads text r h p = reads r (signed text h) p
