-- Decimals of up to 128 bits are read back, and a normal number that is whole is the decimal of its number.
use Rattle.std.specs.Prelude.{◌≡◌, ℕ, zero, suc, ◌+◌, ◌*◌, ◌/◌, ◌%◌, ◌^◌, ◌<◌, ◌≤◌, ℤ, pos, negsuc, neg_ℤ, Bool, true, false, ◌||◌, ◌==◌, if◌then◌else◌, List, [], ◌∷◌, ◌++◌, Ok, decimal, refl}
use Rattle.std.specs.Char.{is_ascii_digit, digit_value}
use Rattle.std.specs.Int.{is_in_range}
use Rattle.std.specs.Str.{all_ascii_digits}
use Rattle.std.specs.Fmt.{signed_decimal}
use Rattle.std.specs.Str.Parse.{AllDigits, digits_value, digits_value_after, signed_digits_value}
use Rattle.std.proofs.Common.{sym, ap, ◌∙◌, arith, append-nil, append_assoc}
use Rattle.std.proofs.lemmas.Bool.{and_parts}
use Rattle.std.proofs.lemmas.Bool.Decides.{nat_tests}
use Rattle.std.proofs.lemmas.Str.{digit_value_digit}
use Rattle.std.proofs.lemmas.Str.Parse.{digit_from_value}
use Rattle.std.proofs.lemmas.Fmt.{decimal_is_IsNumeral_wide, decimal_digit, decimal_step_wide}
use Rattle.sval_label.specs.Texts.{is_empty, is_decimal}
use Rattle.sval_label.specs.Ranges.{is_unsigned, is_signed}
use Rattle.sval_label.proofs.Decimals.{IsShort, short-unsigned, short-signed}
use Rattle.sval_json.specs.Digits.{digits_of, after_digits, minus, is_tail, without_minus, is_json_number}
use Rattle.sval_json.specs.Number.{normal}
use Rattle.sval_json.specs.Json.{number}
use Rattle.sval_cbor.specs.Packs.{has_128_bits, is_whole_number}
use Rattle.sval_cbor.specs.Cbor.{integer, cbor}

-- ---- a decimal is read back

digit_no_minus : (c : ℕ) (cs : List ℕ) → AllDigits 10 (c ∷ cs) → (c == 45) ≡ false
digit_no_minus c cs d = let h = digit_from_value c d.0 in grind (arith, nat_tests)

digit_no_plus : (c : ℕ) (cs : List ℕ) → AllDigits 10 (c ∷ cs) → (c == 43) ≡ false
digit_no_plus c cs d = let h = digit_from_value c d.0 in grind (arith, nat_tests)

-- digits stand for their number, and digits after a minus for its negative
pub unsigned_value : (ds : List ℕ) → AllDigits 10 ds → signed_digits_value 10 ds ≡ pos (digits_value 10 ds)
unsigned_value [] d = refl
unsigned_value (c ∷ cs) d = rw (digit_no_minus c cs d, digit_no_plus c cs d) refl

pub negative_value : (ds : List ℕ) → signed_digits_value 10 (45 ∷ ds) ≡ neg_ℤ (pos (digits_value 10 ds))
negative_value ds = refl

pub value_of_decimal : (z : ℤ) → IsShort z → signed_digits_value 10 (signed_decimal z) ≡ z
value_of_decimal (pos n) h = let e = decimal_is_IsNumeral_wide n h in unsigned_value (decimal n) e.0.1 ∙ ap pos e.1
value_of_decimal (negsuc n) h = let e = decimal_is_IsNumeral_wide (suc n) h in ap (λ m. neg_ℤ (pos m)) e.1

-- ---- digits without a zero in front are the decimal of their number

-- what digits follow is no more than the number that all make
pub le_value_after : (n : ℕ) (ds : List ℕ) → n ≤ digits_value_after 10 n ds
le_value_after n [] = omega arith
le_value_after n (c ∷ cs) = omega (arith, le_value_after (n * 10 + digit_value c) cs)

decimal_value_after : (n : ℕ) (ds : List ℕ) → 0 < n → AllDigits 10 ds → digits_value_after 10 n ds < 10 ^ 64 → decimal (digits_value_after 10 n ds) ≡ decimal n ++ ds
decimal_value_after n [] some d small = sym (append-nil (decimal n))
decimal_value_after n (c ∷ cs) some d small =
    let m : ℕ = n * 10 + digit_value c in
    let k = digit_value_digit c (digit_from_value c d.0) in
    let front : m / 10 ≡ n = omega (arith, d.0) in
    let end : 48 + m % 10 ≡ c = omega (arith, d.0) in
    decimal_value_after m cs (omega arith) d.1 small
    ∙ ap (λ x. x ++ cs) (decimal_step_wide m (omega arith) (omega (arith, le_value_after m cs)) ∙ ap (λ x. decimal x ++ ((48 + m % 10) ∷ [])) front ∙ ap (λ x. decimal n ++ (x ∷ [])) end)
    ∙ append_assoc (decimal n) (c ∷ []) cs

digit_values : (ds : List ℕ) → all_ascii_digits ds ≡ true → AllDigits 10 ds
digit_values [] h = tt
digit_values (c ∷ cs) h =
    let (a, b) = and_parts (is_ascii_digit c) (all_ascii_digits cs) h in
    let r : (48 ≤ c) × (c ≤ 57) = (grind (arith, nat_tests), grind (arith, nat_tests)) in
    let k = digit_value_digit c r in
    (omega arith, digit_values cs b)

first_above : (c : ℕ) → is_in_range 49 57 c ≡ true → is_ascii_digit c ≡ true
first_above c h = grind (arith, nat_tests)

decimal_all : (ds : List ℕ) → is_decimal ds ≡ true → AllDigits 10 ds
decimal_all [] h = tt
decimal_all (c ∷ []) h = digit_values (c ∷ []) (rw h refl)
decimal_all (c ∷ e ∷ cs) h =
    let (a, b) = and_parts (is_in_range 49 57 c) (all_ascii_digits (e ∷ cs)) h in
    digit_values (c ∷ e ∷ cs) (rw (first_above c a, b) refl)

pub decimal_of_value : (ds : List ℕ) → is_decimal ds ≡ true → digits_value 10 ds < 10 ^ 64 → decimal (digits_value 10 ds) ≡ ds
decimal_of_value [] h small = absurd (cc h)
decimal_of_value (c ∷ []) h small =
    let d = decimal_all (c ∷ []) h in
    let k = digit_value_digit c (digit_from_value c d.0) in
    decimal_digit (0 * 10 + digit_value c) (omega (arith, d.0)) ∙ ap (λ x. x ∷ []) (omega arith)
decimal_of_value (c ∷ e ∷ cs) h small =
    let d = decimal_all (c ∷ e ∷ cs) h in
    let k = digit_value_digit c (digit_from_value c d.0) in
    let (a, b) = and_parts (is_in_range 49 57 c) (all_ascii_digits (e ∷ cs)) h in
    let above : 49 ≤ c = grind (arith, nat_tests) in
    let is : 48 + (0 * 10 + digit_value c) ≡ c = omega arith in
    decimal_value_after (0 * 10 + digit_value c) (e ∷ cs) (omega arith) d.1 small
    ∙ ap (λ x. x ++ (e ∷ cs)) (decimal_digit (0 * 10 + digit_value c) (omega (arith, d.0)) ∙ ap (λ x. x ∷ []) is)

-- ---- a normal number that is whole is the decimal of its number

short_by : (a b : Bool) (z : ℤ) → is_unsigned 128 z ≡ a → is_signed 127 z ≡ b → (a || b) ≡ true → IsShort z
short_by true b z e f h = short-unsigned 128 z (omega arith) e
short_by false true z e f h = short-signed 127 z (omega arith) f
short_by false false z e f h = absurd (cc h)

pub short_of_128 : (z : ℤ) → has_128_bits z ≡ true → IsShort z
short_of_128 z h = short_by (is_unsigned 128 z) (is_signed 127 z) z refl refl h

all_in_front : (bs : List ℕ) → is_empty (after_digits bs) ≡ true → digits_of bs ≡ bs
all_in_front [] h = refl
all_in_front (c ∷ cs) h = go (is_ascii_digit c) h (all_in_front cs)
  where
    go : (b : Bool) → is_empty (if b then after_digits cs else c ∷ cs) ≡ true → (is_empty (after_digits cs) ≡ true → digits_of cs ≡ cs)
        → (if b then c ∷ digits_of cs else []) ≡ c ∷ cs
    go true k rest = ap (λ x. c ∷ x) (rest k)
    go false k rest = absurd (cc k)

negative_back : (v : ℕ) (ds : List ℕ) → decimal v ≡ ds → normal (minus ∷ ds) ≡ Ok (minus ∷ ds) → signed_decimal (neg_ℤ (pos v)) ≡ minus ∷ ds
negative_back zero ds e n = absurd (lone_zero ds (sym e ∙ decimal_digit 0 (omega arith)) n)
  where
    lone_zero : (ds : List ℕ) → ds ≡ 48 ∷ [] → normal (minus ∷ ds) ≡ Ok (minus ∷ ds) → ⊥
    lone_zero ds f n = let m : normal (minus ∷ 48 ∷ []) ≡ Ok (minus ∷ 48 ∷ []) = rw f at n in cc m
negative_back (suc v) ds e n = ap (λ x. minus ∷ x) e

short_negative : (v : ℕ) → IsShort (neg_ℤ (pos v)) → v < 10 ^ 64
short_negative zero h = omega arith
short_negative (suc v) h = h

back_by : (b : Bool) (c : ℕ) (cs : List ℕ) → (c == minus) ≡ b → normal (c ∷ cs) ≡ Ok (c ∷ cs) → is_decimal (if b then cs else c ∷ cs) ≡ true → IsShort (signed_digits_value 10 (c ∷ cs))
    → signed_decimal (signed_digits_value 10 (c ∷ cs)) ≡ c ∷ cs
back_by true c cs e n d s =
    let is : c ≡ minus = grind (arith, nat_tests) in
    let m : normal (minus ∷ cs) ≡ Ok (minus ∷ cs) = rw is at n in
    let short : IsShort (signed_digits_value 10 (minus ∷ cs)) = rw is at s in
    let back = negative_back (digits_value 10 cs) cs (decimal_of_value cs d (short_negative (digits_value 10 cs) short)) m in
    rw is back
back_by false c cs e n d s =
    let v = unsigned_value (c ∷ cs) (decimal_all (c ∷ cs) d) in
    let small : IsShort (pos (digits_value 10 (c ∷ cs))) = rw v at s in
    ap signed_decimal v ∙ decimal_of_value (c ∷ cs) d small

pub whole_back : (out : List ℕ) → normal out ≡ Ok out → is_json_number out ≡ true → is_whole_number out ≡ true → signed_decimal (signed_digits_value 10 out) ≡ out
whole_back [] n j w = absurd (cc j)
whole_back (c ∷ cs) n j w =
    let (empty, bits) = and_parts (is_empty (after_digits (without_minus (c ∷ cs)))) (has_128_bits (signed_digits_value 10 (c ∷ cs))) w in
    let (d, t) = and_parts (is_decimal (digits_of (without_minus (c ∷ cs)))) (is_tail (after_digits (without_minus (c ∷ cs)))) j in
    let f : is_decimal (without_minus (c ∷ cs)) ≡ true = rw (all_in_front (without_minus (c ∷ cs)) empty) at d in
    back_by (c == minus) c cs refl n f (short_of_128 (signed_digits_value 10 (c ∷ cs)) bits)

-- what the writer's step writes for a whole number is that number's bytes
pub integer_of_decimal : (z : ℤ) → has_128_bits z ≡ true → cbor (number (signed_decimal z)) ≡ integer z
integer_of_decimal z h = ap integer (value_of_decimal z (short_of_128 z h))

-- where the number so far and one more digit need more than 128 bits, the whole does
pub too_large : (so_far digit : ℕ) (after rest text : List ℕ) → digits_value_after 10 so_far rest ≡ digits_value 10 text → rest ≡ digit ∷ after → 2 ^ 128 ≤ so_far * 10 + digit_value digit
    → 2 ^ 128 ≤ digits_value 10 text
too_large so_far digit after rest text value split large =
    let whole : digits_value 10 text ≡ digits_value_after 10 (so_far * 10 + digit_value digit) after = sym value ∙ ap (digits_value_after 10 so_far) split in
    omega (arith, whole, large, le_value_after (so_far * 10 + digit_value digit) after)
