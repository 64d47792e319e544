-- The normal form of a number, found from its front on.
use Rattle.std.specs.Prelude.{◌≡◌, ℕ, Bool, true, false, not, ◌&&◌, ◌==◌, List, [], ◌∷◌, ◌++◌, if◌then◌else◌, drop, refl}
use Rattle.std.specs.Char.{is_ascii_digit}
use Rattle.std.proofs.Common.{sym, ap, ◌∙◌, subst, arith}
use Rattle.std.proofs.lemmas.Bool.{and_parts}
use Rattle.std.proofs.lemmas.Bool.Decides.{nat_tests}
use Rattle.sval_json.specs.Digits.{zero_digit, has_digit, digits_of, after_digits}
use Rattle.sval_json.specs.Number.{sign, without_zeros, with_sign}
use Rattle.sval_cbor.specs.SeenNumber.{has_leading_zero, unsigned_form, keeps_sign}

-- ---- digits and what follows them

front_and_rest : (text : List ℕ) → digits_of text ++ after_digits text ≡ text
front_and_rest [] = refl
front_and_rest (c ∷ cs) = elim (is_ascii_digit c) as (λ b. (if b then c ∷ digits_of cs else []) ++ (if b then after_digits cs else c ∷ cs) ≡ c ∷ cs) [ true ↦ ap (λ xs. c ∷ xs) (front_and_rest cs) | false ↦ refl ]

not_both : (z e : Bool) → e ≡ true → (z && e) ≡ false → z ≡ false
not_both true e is k = sym is ∙ k
not_both false e is k = refl

zero_is_digit : (c : ℕ) → (c == zero_digit) ≡ true → is_ascii_digit c ≡ true
zero_is_digit c h = grind (arith, nat_tests)

-- ---- the zeros in front

-- where no zero stands in front of a digit, the number stays
pub unskipped : (text : List ℕ) → has_leading_zero text ≡ false → unsigned_form text ≡ text
unskipped [] h = refl
unskipped (c ∷ []) h = elim (is_ascii_digit c) as (λ b. without_zeros (if b then c ∷ [] else []) ++ (if b then [] else c ∷ []) ≡ c ∷ []) [ true ↦ refl | false ↦ refl ]
unskipped (c ∷ d ∷ ds) h = go (is_ascii_digit c) (is_ascii_digit d) refl h (front_and_rest ds)
  where
    kept : (z : Bool) → z ≡ false → digits_of ds ++ after_digits ds ≡ ds → (if z then without_zeros (d ∷ digits_of ds) else c ∷ d ∷ digits_of ds) ++ after_digits ds ≡ c ∷ d ∷ ds
    kept true e f = cc e
    kept false e f = ap (λ xs. c ∷ d ∷ xs) f

    go : (b e : Bool) → is_ascii_digit d ≡ e → ((c == zero_digit) && is_ascii_digit d) ≡ false → digits_of ds ++ after_digits ds ≡ ds
        → without_zeros (if b then c ∷ (if e then d ∷ digits_of ds else []) else []) ++ (if b then (if e then after_digits ds else d ∷ ds) else c ∷ d ∷ ds) ≡ c ∷ d ∷ ds
    go false e is k f = refl
    go true false is k f = refl
    go true true is k f = kept (c == zero_digit) (not_both (c == zero_digit) (is_ascii_digit d) is k) f

-- where one stands there, it is left out
pub skipped : (text : List ℕ) → has_leading_zero text ≡ true → unsigned_form (drop 1 text) ≡ unsigned_form text
skipped [] h = cc
skipped (c ∷ []) h = let (zero, digit) = and_parts (c == zero_digit) false h in cc digit
skipped (c ∷ d ∷ ds) h = let (zero, digit) = and_parts (c == zero_digit) (is_ascii_digit d) h in rw (zero_is_digit c zero, digit, zero) refl

-- ---- the sign

signed_by : (b : Bool) (w : ℕ) → (w == zero_digit) ≡ b → sign (not b) ++ (w ∷ []) ≡ with_sign true (w ∷ []) []
signed_by true w e = rw e refl
signed_by false w e = rw e refl

pub signed_form : (negative : Bool) (w : ℕ) (ws tail : List ℕ) → sign (keeps_sign negative ((w ∷ ws) ++ tail)) ++ ((w ∷ ws) ++ tail) ≡ with_sign negative (w ∷ ws) tail
signed_form false w ws tail = refl
signed_form true w [] [] = signed_by (w == zero_digit) w refl
signed_form true w [] (t ∷ ts) = refl
signed_form true w (x ∷ xs) tail = refl

-- ---- a number begins with a digit

pub record BeginsWithDigit (digits : List ℕ) : Type 0 where
  pub first : ℕ
  pub rest : List ℕ
  pub is : digits ≡ first ∷ rest
  pub digit : is_ascii_digit first ≡ true

zeros_begin : (c : ℕ) (text : List ℕ) → is_ascii_digit c ≡ true → BeginsWithDigit (without_zeros (c ∷ digits_of text))
zeros_begin c [] h = record { first = c; rest = []; is = refl; digit = h }
zeros_begin c (d ∷ ds) h = go (is_ascii_digit d) refl (zeros_begin d ds)
  where
    first_of : (z : Bool) → BeginsWithDigit (without_zeros (d ∷ digits_of ds)) → BeginsWithDigit (if z then without_zeros (d ∷ digits_of ds) else c ∷ d ∷ digits_of ds)
    first_of true later = later
    first_of false later = record { first = c; rest = d ∷ digits_of ds; is = refl; digit = h }

    go : (b : Bool) → is_ascii_digit d ≡ b → (is_ascii_digit d ≡ true → BeginsWithDigit (without_zeros (d ∷ digits_of ds)))
        → BeginsWithDigit (without_zeros (c ∷ (if b then d ∷ digits_of ds else [])))
    go false is later = record { first = c; rest = []; is = refl; digit = h }
    go true is later = first_of (c == zero_digit) (later is)

pub form_begins : (text : List ℕ) → has_digit text ≡ true → BeginsWithDigit (without_zeros (digits_of text))
form_begins [] h = cc h
form_begins (c ∷ cs) h = subst (λ b. BeginsWithDigit (without_zeros (if b then c ∷ digits_of cs else []))) (sym h) (zeros_begin c cs h)

-- ---- the parts in code

pub form_is : (negative : Bool) (text unsigned : List ℕ) (sign_stays : Bool) → has_digit text ≡ true → unsigned ≡ unsigned_form text → sign_stays ≡ keeps_sign negative unsigned
    → sign sign_stays ++ unsigned ≡ with_sign negative (without_zeros (digits_of text)) (after_digits text)
form_is negative text unsigned sign_stays h e k =
    let b = form_begins text h in
    let whole : unsigned ≡ (b.first ∷ b.rest) ++ after_digits text = e ∙ ap (λ xs. xs ++ after_digits text) b.is in
    ap (λ s. sign s ++ unsigned) k ∙ ap (λ u. sign (keeps_sign negative u) ++ u) whole ∙ signed_form negative b.first b.rest (after_digits text) ∙ ap (λ ds. with_sign negative ds (after_digits text)) (sym b.is)

pub form_has_digit : (text unsigned : List ℕ) → has_digit text ≡ true → unsigned ≡ unsigned_form text → has_digit unsigned ≡ true
form_has_digit text unsigned h e =
    let b = form_begins text h in
    ap has_digit (e ∙ ap (λ xs. xs ++ after_digits text) b.is) ∙ b.digit
