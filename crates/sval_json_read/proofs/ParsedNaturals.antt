-- A number is a `u64` or a `u128` exactly where `parse` reads one.
use Rattle.std.specs.Prelude.{◌≡◌, ℕ, ◌^◌, ◌<◌, Bool, true, false, not, ◌&&◌, ◌==◌, nat_lt, List, ◌∷◌, length, Some, None, Result, Ok, Err, OkIff, refl}
use Rattle.std.specs.Str.{all_ascii_digits}
use Rattle.std.specs.Str.Parse.{digits_value, ParsesUnsigned}
use Rattle.std.proofs.Common.{sym, ap, subst, ◌∙◌, arith}
use Rattle.std.proofs.lemmas.Bool.{and_parts, and_from}
use Rattle.std.proofs.lemmas.Str.Parse.{parse_plain}
use Rattle.sval_label.specs.Texts.{is_empty}
use Rattle.sval_json.specs.Digits.{minus, digits_of, after_digits, is_json_number}
use Rattle.sval_json.specs.Number.{is_negative}
use Rattle.sval_json.specs.Grammar.{Number}
use Rattle.sval_json_read.specs.Trees.{has_no_fraction}
use Rattle.sval_json_read.specs.Lookups.{fits_unsigned, unsigned_of}
use Rattle.sval_json_read.proofs.SettledNumbers.{IsUnsigned, Signed, negative, positive, signed, whole_digits, no_number_there, digit_first}
use Rattle.sval_json_read.proofs.ParsedNumbers.{own, none_after, all_of_whole, in_range_test, no_sign}
use Rattle.sval_json_read.proofs.StringSteps.{below}

-- what `parse` answers, where the text is a number of JSON
abbrev pub ReadsUnsigned : {E : Type 0} → ℕ → List ℕ → Result ℕ E → Type 0
ReadsUnsigned bits text (Ok n) = (fits_unsigned bits text ≡ true) × (n ≡ digits_value 10 (digits_of text))
ReadsUnsigned bits text (Err e) = fits_unsigned bits text ≡ false

module _ (bits : ℕ) where
  by_test : {E : Type 0} (text : List ℕ) (P : Type 0) (value : ℕ) (r : Result ℕ E) → OkIff r P value → (P → fits_unsigned bits text ≡ true) → (fits_unsigned bits text ≡ true → P)
      → (P → value ≡ digits_value 10 (digits_of text)) → ReadsUnsigned bits text r
  by_test text P value (Ok n) h f g e = (f h.0, h.1 ∙ e h.0)
  by_test text P value (Err x) h f g e = go (fits_unsigned bits text) refl
    where
      go : (b : Bool) → fits_unsigned bits text ≡ b → b ≡ false
      go true k = absurd (h (g k))
      go false k = refl

  no_minus_digit : (unsigned : List ℕ) → all_ascii_digits (minus ∷ unsigned) ≡ true → ⊥
  no_minus_digit unsigned h = cc h

  no_minus_fits : (unsigned : List ℕ) → fits_unsigned bits (minus ∷ unsigned) ≡ true → ⊥
  no_minus_fits unsigned h =
      let (w, o) = and_parts (has_no_fraction (minus ∷ unsigned)) (not (is_negative (minus ∷ unsigned)) && nat_lt (digits_value 10 (digits_of (minus ∷ unsigned))) (2 ^ bits)) h in
      cc o

  negative_reads : {E : Type 0} (unsigned : List ℕ) (r : Result ℕ E) → ParsesUnsigned bits 10 (minus ∷ unsigned) r → ReadsUnsigned bits (minus ∷ unsigned) r
  negative_reads unsigned r h =
      by_test (minus ∷ unsigned) ((all_ascii_digits (minus ∷ unsigned) ≡ true) × (0 < length (minus ∷ unsigned)) × (digits_value 10 (minus ∷ unsigned) < 2 ^ bits)) (digits_value 10 (minus ∷ unsigned)) r
      (parse_plain own bits (minus ∷ unsigned) r h (λ e. omega (arith, e)))
      (λ p. absurd (no_minus_digit unsigned p.0)) (λ t. absurd (no_minus_fits unsigned t)) (λ p. absurd (no_minus_digit unsigned p.0))

  positive_reads : {E : Type 0} (byte : ℕ) (bytes : List ℕ) (r : Result ℕ E) → (byte == minus) ≡ false → IsUnsigned (byte ∷ bytes) (byte ∷ bytes) → ParsesUnsigned bits 10 (byte ∷ bytes) r
      → ReadsUnsigned bits (byte ∷ bytes) r
  positive_reads byte bytes r m u h =
      let text : List ℕ = byte ∷ bytes in
      let n = no_sign byte (digit_first text u.decimal_part) in
      let w = no_number_there byte bytes m in
      by_test text ((all_ascii_digits text ≡ true) × (0 < length text) × (digits_value 10 text < 2 ^ bits)) (digits_value 10 text) r
      (parse_plain own bits text r h n.0)
      (λ p. let k = none_after text p.0 in
      and_from (has_no_fraction text) (not (is_negative text) && nat_lt (digits_value 10 (digits_of text)) (2 ^ bits)) (subst (λ x. is_empty (after_digits x) ≡ true) (sym w) k.1)
      (and_from (not (is_negative text)) (nat_lt (digits_value 10 (digits_of text)) (2 ^ bits)) (ap not m)
      (subst (λ x. nat_lt (digits_value 10 x) (2 ^ bits) ≡ true) (sym k.0) (in_range_test (digits_value 10 text) (2 ^ bits) p.2))))
      (λ t. let (e, o) = and_parts (has_no_fraction text) (not (is_negative text) && nat_lt (digits_value 10 (digits_of text)) (2 ^ bits)) t in
      let (_, s) = and_parts (not (is_negative text)) (nat_lt (digits_value 10 (digits_of text)) (2 ^ bits)) o in
      let f = subst (λ x. is_empty (after_digits x) ≡ true) w e in
      let d = all_of_whole text u.decimal_part f in
      let l = below (digits_value 10 (digits_of text)) (2 ^ bits) s in
      (d.0, d.1, subst (λ x. digits_value 10 x < 2 ^ bits) (whole_digits text f) l))
      (λ p. ap (digits_value 10) (sym (none_after text p.0).0))

  reads : {E : Type 0} {text : List ℕ} (r : Result ℕ E) → Signed text → ParsesUnsigned bits 10 text r → ReadsUnsigned bits text r
  reads r (negative {unsigned = unsigned} u) h = negative_reads unsigned r h
  reads r (positive {byte = byte} {bytes = bytes} m u) h = positive_reads byte bytes r m u h

  -- for `parse::<u64>()` and `parse::<u128>()` of a number of JSON
  pub parse-reads : {E : Type 0} (text : List ℕ) (r : Result ℕ E) → is_json_number text ≡ true → ParsesUnsigned bits 10 text r → ReadsUnsigned bits text r
  parse-reads text r h p = reads r (signed text h) p

  pub fits_some : (text : List ℕ) (n : ℕ) → fits_unsigned bits text ≡ true → n ≡ digits_value 10 (digits_of text) → Some n ≡ unsigned_of bits (Number text)
  fits_some text n f e = rw f (ap Some e)

  pub no_fit : (text : List ℕ) → fits_unsigned bits text ≡ false → None ≡ unsigned_of bits (Number text)
  no_fit text f = rw f refl
