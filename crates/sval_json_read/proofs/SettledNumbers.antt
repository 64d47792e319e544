-- What a number's tree is written as.
use Rattle.std.specs.Prelude.{◌≡◌, ℕ, zero, suc, ◌^◌, ◌<◌, pos, neg_ℤ, Bool, true, false, cond, ◌==◌, if◌then◌else◌, List, [], ◌∷◌, ◌++◌, length, get_or, codes, decimal, Result, Ok, refl}
use Rattle.std.specs.Int.{is_in_range}
use Rattle.std.specs.Fmt.{signed_decimal}
use Rattle.std.specs.Char.{is_ascii_digit}
use Rattle.std.specs.Str.{all_ascii_digits, bytes_eq}
use Rattle.std.specs.Str.Parse.{digits_value}
use Rattle.std.proofs.Common.{sym, ap, subst, ◌∙◌, arith, append-nil}
use Rattle.std.proofs.lemmas.Bool.{and_parts}
use Rattle.std.proofs.lemmas.Bool.Decides.{nat_tests}
use Rattle.std.proofs.lemmas.Fmt.{decimal-digits_value, decimal_digit}
use Rattle.std.proofs.lemmas.Slice.Eq.{bytes_eq-Decides}
use Rattle.std.proofs.lemmas.Str.Parse.{numerals_by_value, tells_all_ascii_digits}
use Rattle.sval_label.specs.Calls.{I64}
use Rattle.sval_label.specs.Ranges.{is_of_type}
use Rattle.sval_label.specs.Texts.{is_empty, is_decimal}
use Rattle.sval_json.specs.Digits.{minus, zero_digit, is_sign, digits_of, after_digits, has_digit, without_sign, is_tail, without_minus, is_json_number}
use Rattle.sval_json.specs.Number.{Refusal, is_number, without_zeros, with_sign, normal, normal_after}
use Rattle.sval_json_read.specs.Trees.{has_no_fraction, whole_value, fits_i64, settled_number}
use Rattle.sval_json.proofs.NumberGrammar.{front_and_rest}
use Rattle.sval_json.proofs.NumberTexts.{decimal_digits}
use Rattle.sval_json_read.proofs.StringSteps.{below}

-- ---- decimals and their values

pub some_digits : (ds : List ℕ) → is_decimal ds ≡ true → 0 < length ds
some_digits [] h = cc h
some_digits (d ∷ ds) h = omega arith

lone_zero : (ds : List ℕ) → is_decimal ds ≡ true → get_or ds 0 0 ≡ 48 → length ds ≡ 1
lone_zero [] h e = cc h
lone_zero (d ∷ []) h e = refl
lone_zero (d ∷ c ∷ ds) h e =
    let (a, r) = and_parts (is_in_range 49 57 d) (all_ascii_digits (c ∷ ds)) h in
    let z : d ≡ 48 = e in grind (arith, nat_tests)

decimal_back : (ds : List ℕ) → is_decimal ds ≡ true → digits_value 10 ds < 2 ^ 64 → decimal (digits_value 10 ds) ≡ ds
decimal_back ds h l = decimal-digits_value (numerals_by_value (λ ds. all_ascii_digits ds ≡ true) tells_all_ascii_digits) ds (decimal_digits ds h) (some_digits ds h) (lone_zero ds h) l

-- ---- the sign

-- a number without its sign
pub record IsUnsigned (text unsigned : List ℕ) : Type 0 where
  pub decimal_part : is_decimal (digits_of unsigned) ≡ true
  pub tail_part : is_tail (after_digits unsigned) ≡ true

unsigned_parts : (text : List ℕ) → is_json_number text ≡ true → IsUnsigned text (without_minus text)
unsigned_parts text h =
    let (a, b) = and_parts (is_decimal (digits_of (without_minus text))) (is_tail (after_digits (without_minus text))) h in record { decimal_part = a; tail_part = b }

pub data Signed : List ℕ → Type 0 where
  negative : {unsigned : List ℕ} → IsUnsigned (minus ∷ unsigned) unsigned → Signed (minus ∷ unsigned)
  positive : {byte : ℕ} {bytes : List ℕ} → (byte == minus) ≡ false → IsUnsigned (byte ∷ bytes) (byte ∷ bytes) → Signed (byte ∷ bytes)

pub no_number_there : (byte : ℕ) (bytes : List ℕ) → (byte == minus) ≡ false → without_minus (byte ∷ bytes) ≡ byte ∷ bytes
no_number_there byte bytes h = rw h refl

is_minus : (byte : ℕ) → (byte == minus) ≡ true → minus ≡ byte
is_minus byte h = grind (arith, nat_tests)

pub signed : (text : List ℕ) → is_json_number text ≡ true → Signed text
signed [] h = cc h
signed (byte ∷ bytes) h = go (byte == minus) refl
  where
    go : (m : Bool) → (byte == minus) ≡ m → Signed (byte ∷ bytes)
    go true e =
        subst (λ b. Signed (b ∷ bytes)) (is_minus byte e)
        (negative (unsigned_parts (minus ∷ bytes) (subst (λ b. is_json_number (b ∷ bytes) ≡ true) (sym (is_minus byte e)) h)))
    go false e = positive e (subst (λ x. IsUnsigned (byte ∷ bytes) x) (no_number_there byte bytes e) (unsigned_parts (byte ∷ bytes) h))

-- ---- whole numbers

pub whole_digits : (unsigned : List ℕ) → is_empty (after_digits unsigned) ≡ true → digits_of unsigned ≡ unsigned
whole_digits unsigned e = go (after_digits unsigned) refl e
  where
    go : (rest : List ℕ) → after_digits unsigned ≡ rest → is_empty rest ≡ true → digits_of unsigned ≡ unsigned
    go [] f e = sym (append-nil (digits_of unsigned)) ∙ ap (λ x. digits_of unsigned ++ x) (sym f) ∙ front_and_rest is_ascii_digit unsigned
    go (byte ∷ rest) f e = cc e

back_from_whole : (unsigned : List ℕ) → is_decimal (digits_of unsigned) ≡ true → is_empty (after_digits unsigned) ≡ true → digits_value 10 (digits_of unsigned) < 2 ^ 64
    → decimal (digits_value 10 (digits_of unsigned)) ≡ unsigned
back_from_whole unsigned d e l = decimal_back (digits_of unsigned) d l ∙ whole_digits unsigned e

-- text that isn't `-0` stays
abbrev lone : List ℕ
lone = 48 ∷ []

stays : (text : List ℕ) → bytes_eq text (codes "-0") ≡ false → settled_number text ≡ text
stays text h = rw h refl

positive_stays : (byte : ℕ) (bytes : List ℕ) → (byte == minus) ≡ false → settled_number (byte ∷ bytes) ≡ byte ∷ bytes
positive_stays byte bytes h = stays (byte ∷ bytes) (rw h refl)

same_bytes : (xs ys : List ℕ) → bytes_eq xs ys ≡ true → xs ≡ ys
same_bytes xs ys h = (bytes_eq-Decides xs ys).0 h

negative_number : (unsigned : List ℕ) (n : ℕ) → n ≡ digits_value 10 unsigned → decimal n ≡ unsigned → signed_decimal (neg_ℤ (pos n)) ≡ settled_number (minus ∷ unsigned)
negative_number unsigned zero v e =
    let z : lone ≡ unsigned = sym (decimal_digit 0 (omega arith)) ∙ e in
    subst (λ u. decimal 0 ≡ settled_number (minus ∷ u)) z (decimal_digit 0 (omega arith))
negative_number unsigned (suc n) v e = go (bytes_eq unsigned lone) refl
  where
    go : (b : Bool) → bytes_eq unsigned lone ≡ b → minus ∷ decimal (suc n) ≡ settled_number (minus ∷ unsigned)
    go true h = let z : suc n ≡ 0 = v ∙ ap (digits_value 10) (same_bytes unsigned lone h) in absurd (omega arith)
    go false h = ap (λ x. minus ∷ x) e ∙ sym (stays (minus ∷ unsigned) h)

negative_small : (n : ℕ) → is_of_type I64 (neg_ℤ (pos n)) ≡ true → n < 2 ^ 64
negative_small zero h = omega arith
negative_small (suc n) h = let l = below n (2 ^ 63) h in omega arith

whole_written : {text : List ℕ} → Signed text → has_no_fraction text ≡ true → is_of_type I64 (whole_value text) ≡ true → signed_decimal (whole_value text) ≡ settled_number text
whole_written (negative {unsigned = unsigned} u) w f =
    negative_number unsigned (digits_value 10 (digits_of unsigned)) (ap (digits_value 10) (whole_digits unsigned w))
    (back_from_whole unsigned u.decimal_part w (negative_small (digits_value 10 (digits_of unsigned)) f))
whole_written (positive {byte = byte} {bytes = bytes} m u) w f =
    positive_number byte bytes m (back_from_whole (byte ∷ bytes) u.decimal_part (subst (λ x. is_empty (after_digits x) ≡ true) (no_number_there byte bytes m) w)
    (let l = below (digits_value 10 (digits_of (byte ∷ bytes))) (2 ^ 63) (subst (λ z. is_of_type I64 z ≡ true) (positive_value byte bytes m) f) in omega arith))
  where
    positive_value : (byte : ℕ) (bytes : List ℕ) → (byte == minus) ≡ false → whole_value (byte ∷ bytes) ≡ pos (digits_value 10 (digits_of (byte ∷ bytes)))
    positive_value byte bytes m = rw m refl

    positive_number : (byte : ℕ) (bytes : List ℕ) → (byte == minus) ≡ false → decimal (digits_value 10 (digits_of (byte ∷ bytes))) ≡ byte ∷ bytes
        → signed_decimal (whole_value (byte ∷ bytes)) ≡ settled_number (byte ∷ bytes)
    positive_number byte bytes m e = ap signed_decimal (positive_value byte bytes m) ∙ e ∙ sym (positive_stays byte bytes m)

-- a number that is an `i64` is written as it is settled
pub fits-written : (text : List ℕ) → is_json_number text ≡ true → fits_i64 text ≡ true → signed_decimal (whole_value text) ≡ settled_number text
fits-written text h f =
    let (w, t) = and_parts (has_no_fraction text) (is_of_type I64 (whole_value text)) f in whole_written (signed text h) w t

-- ---- other numbers

plain_zeros : (ds : List ℕ) → is_decimal ds ≡ true → without_zeros ds ≡ ds
plain_zeros [] h = refl
plain_zeros (d ∷ []) h = refl
plain_zeros (d ∷ c ∷ ds) h =
    let (a, r) = and_parts (is_in_range 49 57 d) (all_ascii_digits (c ∷ ds)) h in
    let z : (d == zero_digit) ≡ false = grind (arith, nat_tests) in
    rw z refl

minus_before : (ds tail : List ℕ) → (ds ≡ lone → tail ≡ [] → ⊥) → is_decimal ds ≡ true → with_sign true ds tail ≡ minus ∷ (ds ++ tail)
minus_before [] tail n h = absurd (cc h)
minus_before (d ∷ []) [] n h = go (d == zero_digit) refl
  where
    go : (b : Bool) → (d == zero_digit) ≡ b → (if b then d ∷ [] else minus ∷ d ∷ []) ≡ minus ∷ d ∷ []
    go true e = let z : d ≡ 48 = grind (arith, nat_tests) in absurd (n (ap (λ x. x ∷ []) z) refl)
    go false e = refl
minus_before (d ∷ []) (c ∷ tail) n h = refl
minus_before (d ∷ e ∷ ds) tail n h = refl

pub digit_first : (unsigned : List ℕ) → is_decimal (digits_of unsigned) ≡ true → has_digit unsigned ≡ true
digit_first [] h = cc h
digit_first (byte ∷ bytes) h = go (is_ascii_digit byte) refl h
  where
    go : (b : Bool) → is_ascii_digit byte ≡ b → is_decimal (cond b (byte ∷ digits_of bytes) []) ≡ true → is_ascii_digit byte ≡ true
    go true e k = e
    go false e k = cc k

number_again : (unsigned : List ℕ) → is_decimal (digits_of unsigned) ≡ true → is_tail (after_digits unsigned) ≡ true → is_number unsigned ≡ true
number_again unsigned d t = rw (digit_first unsigned d, t) refl

no_sign_first : (byte : ℕ) → is_ascii_digit byte ≡ true → is_sign byte ≡ false
no_sign_first byte h = grind (arith, nat_tests)

no_minus_first : (byte : ℕ) → is_ascii_digit byte ≡ true → (byte == minus) ≡ false
no_minus_first byte h = grind (arith, nat_tests)

ok : {x y : List ℕ} → x ≡ y → (let r : Result (List ℕ) Refusal = Ok x in r) ≡ Ok y
ok e = cc

normal_by : (n : Bool) (unsigned : List ℕ) → is_decimal (digits_of unsigned) ≡ true → is_tail (after_digits unsigned) ≡ true
    → normal_after n unsigned ≡ Ok (with_sign n (digits_of unsigned) (after_digits unsigned))
normal_by n unsigned d t = rw (number_again unsigned d t, plain_zeros (digits_of unsigned) d) refl

normal_stays : {text : List ℕ} → Signed text → (text ≡ codes "-0" → ⊥) → normal text ≡ Ok text
normal_stays (negative {unsigned = unsigned} u) n =
    normal_by true unsigned u.decimal_part u.tail_part
    ∙ ok (minus_before (digits_of unsigned) (after_digits unsigned)
    (λ e f. n (ap (λ x. minus ∷ x) (sym (front_and_rest is_ascii_digit unsigned) ∙ ap (λ x. x ++ after_digits unsigned) e ∙ ap (λ x. lone ++ x) f)))
    u.decimal_part ∙ ap (λ x. minus ∷ x) (front_and_rest is_ascii_digit unsigned))
normal_stays (positive {byte = byte} {bytes = bytes} m u) n =
    positive_normal byte bytes m u.decimal_part u.tail_part
  where
    positive_normal : (byte : ℕ) (bytes : List ℕ) → (byte == minus) ≡ false → is_decimal (digits_of (byte ∷ bytes)) ≡ true → is_tail (after_digits (byte ∷ bytes)) ≡ true
        → normal (byte ∷ bytes) ≡ Ok (byte ∷ bytes)
    positive_normal byte bytes m d t =
        ap (λ b. normal_after b (without_sign (byte ∷ bytes))) m
        ∙ ap (λ b. normal_after false (if b then bytes else byte ∷ bytes)) (no_sign_first byte (digit_first (byte ∷ bytes) d))
        ∙ normal_by false (byte ∷ bytes) d t ∙ ok (front_and_rest is_ascii_digit (byte ∷ bytes))

other_text : (text : List ℕ) → fits_i64 text ≡ false → text ≡ codes "-0" → ⊥
other_text text f e = let g : fits_i64 (codes "-0") ≡ false = subst (λ x. fits_i64 x ≡ false) e f in cc g

pub other-normal : (text : List ℕ) → is_json_number text ≡ true → fits_i64 text ≡ false → normal text ≡ Ok text
other-normal text h f = normal_stays (signed text h) (other_text text f)

pub other-settled : (text : List ℕ) → fits_i64 text ≡ false → settled_number text ≡ text
other-settled text f = go (bytes_eq text (codes "-0")) refl
  where
    go : (b : Bool) → bytes_eq text (codes "-0") ≡ b → settled_number text ≡ text
    go true e = absurd (other_text text f (same_bytes text (codes "-0") e))
    go false e = stays text e
