-- A number with a fraction is its own normal form.
use Rattle.std.specs.Prelude.{◌≡◌, ℕ, ◌+◌, ◌==◌, Bool, true, false, if◌then◌else◌, List, [], ◌∷◌, ◌++◌, length, Ok, refl}
use Rattle.std.specs.Char.{is_ascii_digit}
use Rattle.std.proofs.Common.{sym, ap, ◌∙◌, arith}
use Rattle.std.proofs.lemmas.Bool.Decides.{nat_tests}
use Rattle.std.proofs.lemmas.List.{length-append, nil_from_length}
use Rattle.sval_json.specs.Digits.{minus, point, zero_digit, is_sign, digits_of, after_digits, without_sign, is_tail}
use Rattle.sval_json.specs.Number.{is_number, without_zeros, with_sign, normal, normal_after}
use Rattle.sval_json.proofs.NumberGrammar.{front_and_rest}
use Rattle.sval_tape.specs.JsonAtFront.{IsFraction}

-- a digit is no sign
no_sign : (byte : ℕ) → is_ascii_digit byte ≡ true → is_sign byte ≡ false
no_sign byte h = grind (arith, nat_tests)

no_minus : (byte : ℕ) → is_ascii_digit byte ≡ true → (byte == minus) ≡ false
no_minus byte h = grind (arith, nat_tests)

-- the digits of a number without a zero in front of others
stays : (first : ℕ) (digits : List ℕ) → ((first == zero_digit) ≡ true → digits ≡ []) → without_zeros (first ∷ digits) ≡ first ∷ digits
stays first [] alone = refl
stays first (next ∷ digits) alone = go (first == zero_digit) refl
  where
    go : (b : Bool) → (first == zero_digit) ≡ b → without_zeros (first ∷ next ∷ digits) ≡ first ∷ next ∷ digits
    go true e = absurd (cc (alone e))
    go false e = rw e refl

signed : (negative : Bool) (first : ℕ) (digits tail : List ℕ) (byte : ℕ) → with_sign negative (first ∷ digits) (byte ∷ tail) ≡ (if negative then minus ∷ (first ∷ digits) ++ (byte ∷ tail) else (first ∷ digits) ++ (byte ∷ tail))
signed true first [] tail byte = refl
signed true first (next ∷ digits) tail byte = refl
signed false first digits tail byte = refl

module _ (text : List ℕ) (f : IsFraction text) where
  -- no digits are behind a zero
  lone : (f.first == zero_digit) ≡ true → digits_of f.rest ≡ []
  lone z =
      let zero : f.first ≡ 48 = grind (arith, nat_tests) in
      let parts = front_and_rest is_ascii_digit f.rest in
      let sizes : length (digits_of f.rest) + length (after_digits f.rest) ≡ length f.rest = sym (length-append (digits_of f.rest) (after_digits f.rest)) ∙ ap length parts in
      let same = f.no_zero zero in
      nil_from_length (digits_of f.rest) (omega (arith, sizes, same))

  digits_are : digits_of (f.first ∷ f.rest) ≡ f.first ∷ digits_of f.rest
  digits_are = rw f.first_digit refl

  tail_is : after_digits (f.first ∷ f.rest) ≡ point ∷ f.next ∷ f.last
  tail_is = rw f.first_digit f.tail_is

  is_a_tail : is_tail (point ∷ f.next ∷ f.last) ≡ true
  is_a_tail = rw (f.next_digit, f.ended) refl

  whole : (f.first ∷ digits_of f.rest) ++ (point ∷ f.next ∷ f.last) ≡ f.first ∷ f.rest
  whole = ap (λ x. (f.first ∷ digits_of f.rest) ++ x) (sym f.tail_is) ∙ ap (λ x. f.first ∷ x) (front_and_rest is_ascii_digit f.rest)

  is_a_number : is_number (f.first ∷ f.rest) ≡ true
  is_a_number = rw (f.first_digit, f.tail_is, f.next_digit, f.ended) refl

  normal_is : (negative : Bool) → normal_after negative (f.first ∷ f.rest) ≡ Ok (if negative then minus ∷ (f.first ∷ f.rest) else (f.first ∷ f.rest))
  normal_is negative =
      rw is_a_number
      (ap (λ d. Ok (with_sign negative (without_zeros d) (after_digits (f.first ∷ f.rest)))) digits_are
      ∙ ap (λ d. Ok (with_sign negative d (after_digits (f.first ∷ f.rest)))) (stays f.first (digits_of f.rest) lone)
      ∙ ap (λ t. Ok (with_sign negative (f.first ∷ digits_of f.rest) t)) tail_is
      ∙ ap Ok (signed negative f.first (digits_of f.rest) (f.next ∷ f.last) point)
      ∙ ap (λ x. Ok (if negative then minus ∷ x else x)) whole)

  pub positive_stays : normal text ≡ Ok text
  positive_stays =
      ap normal f.text_is
      ∙ ap (λ b. normal_after b (without_sign (f.first ∷ f.rest))) (no_minus f.first f.first_digit)
      ∙ ap (λ b. normal_after false (if b then f.rest else (f.first ∷ f.rest))) (no_sign f.first f.first_digit)
      ∙ normal_is false
      ∙ ap Ok (sym f.text_is)

  pub negative_stays : normal (minus ∷ text) ≡ Ok (minus ∷ text)
  negative_stays = ap (λ x. normal_after true x) f.text_is ∙ normal_is true ∙ ap (λ x. Ok (minus ∷ x)) (sym f.text_is)
