-- A text is a number by the grammar where the test says so, and what stands in front of other bytes is their longest run of
-- bytes of numbers.
use Rattle.std.specs.Prelude.{◌==◌, ◌≡◌, ℕ, Bool, true, false, cond, ◌||◌, ◌&&◌, List, [], ◌∷◌, ◌++◌, refl, IsTrue}
use Rattle.std.specs.Int.{is_in_range}
use Rattle.std.specs.List.{list_all}
use Rattle.std.specs.Str.{all_ascii_digits}
use Rattle.std.specs.Char.{is_ascii_digit}
use Rattle.std.proofs.Common.{sym, ap, ◌∙◌, subst, arith}
use Rattle.std.proofs.lemmas.Bool.{and_parts}
use Rattle.std.proofs.lemmas.Bool.Decides.{nat_tests}
use Rattle.std.proofs.lemmas.List.Folds.{list_all-append}
use Rattle.sval_label.specs.Texts.{is_empty, is_decimal}
use Rattle.sval_json.specs.Digits.{is_sign, is_exponent_mark, front, after_front, digits_of, after_digits, has_digit, without_sign, is_exponent, is_tail, without_minus, is_json_number, is_number_byte, starts_number}
use Rattle.sval_json.specs.Grammar as grammar
use Rattle.sval_json.specs.Grammar.{Number, IsInt, nonzero, IsFrac, no_frac, frac, IsExp, no_exp, exp, signed_exp, IsNumber, unsigned, signed, IsValue, number, is_space, after_space}
use Rattle.sval_json.specs.Laws.{IsLongestRun}

-- ---- the front that passes a test

pub front_and_rest : (test : ℕ → Bool) (bytes : List ℕ) → front test bytes ++ after_front test bytes ≡ bytes
front_and_rest test [] = refl
front_and_rest test (byte ∷ bytes) = go (test byte) (front_and_rest test bytes)
  where
    go : (b : Bool) → front test bytes ++ after_front test bytes ≡ bytes
        → cond b (byte ∷ front test bytes) [] ++ cond b (after_front test bytes) (byte ∷ bytes) ≡ byte ∷ bytes
    go true e = ap (λ xs. byte ∷ xs) e
    go false e = refl

front_all : (test : ℕ → Bool) (bytes : List ℕ) → list_all test (front test bytes) ≡ true
front_all test [] = refl
front_all test (byte ∷ bytes) = go (test byte) refl (front_all test bytes)
  where
    go : (b : Bool) → test byte ≡ b → list_all test (front test bytes) ≡ true → list_all test (cond b (byte ∷ front test bytes) []) ≡ true
    go true e h = rw (e, h) refl
    go false e h = refl

pub all_in_front : (test : ℕ → Bool) (bytes : List ℕ) → list_all test bytes ≡ true → (front test bytes ≡ bytes) × (after_front test bytes ≡ [])
all_in_front test [] h = (refl, refl)
all_in_front test (byte ∷ bytes) h =
    let (a, b) = and_parts (test byte) (list_all test bytes) h in
    let (c, d) = all_in_front test bytes b in
    (rw (a, c) refl, rw (a, d) refl)

-- what passes a test, before what doesn't begin so
fronts : (test : ℕ → Bool) (text rest : List ℕ) → list_all test text ≡ true → front test rest ≡ [] → after_front test rest ≡ rest
    → (front test (text ++ rest) ≡ text) × (after_front test (text ++ rest) ≡ rest)
fronts test [] rest a e f = (e, f)
fronts test (byte ∷ text) rest a e f =
    let (b, c) = and_parts (test byte) (list_all test text) a in
    let (g, h) = fronts test text rest c e f in
    (rw (b, g) refl, rw (b, h) refl)

no_digit_front : (rest : List ℕ) → has_digit rest ≡ false → (digits_of rest ≡ []) × (after_digits rest ≡ rest)
no_digit_front [] h = (refl, refl)
no_digit_front (byte ∷ rest) h = (rw h refl, rw h refl)

no_number_front : (rest : List ℕ) → starts_number rest ≡ false → (front is_number_byte rest ≡ []) × (after_front is_number_byte rest ≡ rest)
no_number_front [] h = (refl, refl)
no_number_front (byte ∷ rest) h = (rw h refl, rw h refl)

digits_then : (text rest : List ℕ) → all_ascii_digits text ≡ true → has_digit rest ≡ false → (digits_of (text ++ rest) ≡ text) × (after_digits (text ++ rest) ≡ rest)
digits_then text rest a h = let (e, f) = no_digit_front rest h in fronts is_ascii_digit text rest a e f

-- ---- a number passes the test

range_digit : (digit : ℕ) → is_in_range 49 57 digit ≡ true → is_ascii_digit digit ≡ true
range_digit digit h = grind (arith, nat_tests)

digit_unsigned : (digit : ℕ) → is_ascii_digit digit ≡ true → is_sign digit ≡ false
digit_unsigned digit h = grind (arith, nat_tests)

range_unsigned : (digit : ℕ) → is_in_range 49 57 digit ≡ true → (digit == 45) ≡ false
range_unsigned digit h = grind (arith, nat_tests)

mark_no_digit : (e : ℕ) → is_exponent_mark e ≡ true → is_ascii_digit e ≡ false
mark_no_digit e h = grind (arith, nat_tests)

mark_no_point : (e : ℕ) → is_exponent_mark e ≡ true → (e == 46) ≡ false
mark_no_point e h = grind (arith, nat_tests)

int_digits : {int : List ℕ} → IsInt int → all_ascii_digits int ≡ true
int_digits grammar.zero = refl
int_digits (nonzero {first = first} r a) = rw (range_digit first r, a) refl

int_decimal : {int : List ℕ} → IsInt int → is_decimal int ≡ true
int_decimal grammar.zero = refl
int_decimal (nonzero {first = first} {more = []} r a) = range_digit first r
int_decimal (nonzero {more = digit ∷ more} r a) = rw (r, a) refl

int_unsigned : {int : List ℕ} (rest : List ℕ) → IsInt int → without_minus (int ++ rest) ≡ int ++ rest
int_unsigned rest grammar.zero = refl
int_unsigned rest (nonzero {first = first} r a) = rw (range_unsigned first r) refl

first_digit : (digit : ℕ) (more : List ℕ) → all_ascii_digits (digit ∷ more) ≡ true → is_ascii_digit digit ≡ true
first_digit digit more a = (and_parts (is_ascii_digit digit) (all_ascii_digits more) a).0

no_digit_left : (digit : ℕ) (more : List ℕ) → all_ascii_digits (digit ∷ more) ≡ true → is_empty (after_digits more) ≡ true
no_digit_left digit more a = let e = (all_in_front is_ascii_digit more (and_parts (is_ascii_digit digit) (all_ascii_digits more) a).1).1 in rw e refl

exp_tested : {text : List ℕ} → IsExp text → is_exponent text ≡ true
exp_tested no_exp = refl
exp_tested (exp {digit = digit} {more = more} m a) = rw (m, digit_unsigned digit (first_digit digit more a), first_digit digit more a) (no_digit_left digit more a)
exp_tested (signed_exp {digit = digit} {more = more} m g a) = rw (m, g, first_digit digit more a) (no_digit_left digit more a)

exp_tail : {text : List ℕ} → IsExp text → (is_tail text ≡ true) × (has_digit text ≡ false)
exp_tail no_exp = (refl, refl)
exp_tail (exp {e = e} {digit = digit} {more = more} m a) = (rw (mark_no_point e m) (exp_tested (exp {e = e} {digit = digit} {more = more} m a)), mark_no_digit e m)
exp_tail (signed_exp {e = e} {sign = sign} {digit = digit} {more = more} m g a) =
    (rw (mark_no_point e m) (exp_tested (signed_exp {e = e} {sign = sign} {digit = digit} {more = more} m g a)), mark_no_digit e m)

tail_tested : {text rest : List ℕ} → IsFrac text → IsExp rest → (is_tail (text ++ rest) ≡ true) × (has_digit (text ++ rest) ≡ false)
tail_tested no_frac x = exp_tail x
tail_tested {rest = rest} (frac {digit = digit} {more = more} a) x =
    let (d, m) = and_parts (is_ascii_digit digit) (all_ascii_digits more) a in
    let e = (digits_then more rest m (exp_tail x).1).1 in
    (rw (d, e, exp_tested x) refl, refl)

parts_tested : {int part power : List ℕ} → IsInt int → IsFrac part → IsExp power
    → (is_decimal (digits_of (int ++ (part ++ power))) && is_tail (after_digits (int ++ (part ++ power)))) ≡ true
parts_tested {int} {part} {power} i f x =
    let (t, h) = tail_tested f x in
    let (d, r) = digits_then int (part ++ power) (int_digits i) h in
    rw (d, r, int_decimal i, t) refl

pub number_tested : {text : List ℕ} → IsNumber text → is_json_number text ≡ true
number_tested (unsigned {frac = part} {exp = power} i f x) = rw (int_unsigned (part ++ power) i) (parts_tested i f x)
number_tested (signed i f x) = parts_tested i f x

-- ---- what passes the test is a number

above_zero : (digit : ℕ) → is_ascii_digit digit ≡ true → (digit == 48) ≡ false → is_in_range 49 57 digit ≡ true
above_zero digit h e = grind (arith, nat_tests)

int_of : (text : List ℕ) → is_decimal text ≡ true → IsInt text
int_of [] h = cc h
int_of (digit ∷ []) h = go (digit == 48) refl
  where
    go : (b : Bool) → (digit == 48) ≡ b → IsInt (digit ∷ [])
    go true e = let f : digit ≡ 48 = grind (arith, nat_tests) in rw f grammar.zero
    go false e = nonzero (above_zero digit h e) refl
int_of (digit ∷ next ∷ more) h = let (a, b) = and_parts (is_in_range 49 57 digit) (all_ascii_digits (next ∷ more)) h in nonzero a b

all_digits : (text : List ℕ) → is_empty (after_digits text) ≡ true → all_ascii_digits text ≡ true
all_digits [] h = refl
all_digits (byte ∷ text) h = go (is_ascii_digit byte) refl (all_digits text) h
  where
    go : (b : Bool) → is_ascii_digit byte ≡ b → (is_empty (after_digits text) ≡ true → all_ascii_digits text ≡ true)
        → is_empty (cond b (after_digits text) (byte ∷ text)) ≡ true → all_ascii_digits (byte ∷ text) ≡ true
    go true e f k = rw (e, f k) refl
    go false e f k = cc k

signed_exp_of : (e sign : ℕ) (text : List ℕ) → is_exponent_mark e ≡ true → is_sign sign ≡ true → has_digit text ≡ true → is_empty (after_digits text) ≡ true → IsExp (e ∷ sign ∷ text)
signed_exp_of e sign [] m g h k = cc h
signed_exp_of e sign (digit ∷ text) m g h k = signed_exp m g (all_digits (digit ∷ text) k)

exp_of_power : (e : ℕ) (text : List ℕ) → is_exponent_mark e ≡ true → has_digit (without_sign text) ≡ true → is_empty (after_digits (without_sign text)) ≡ true → IsExp (e ∷ text)
exp_of_power e [] m h k = cc h
exp_of_power e (byte ∷ text) m h k = go (is_sign byte) refl h k
  where
    go : (b : Bool) → is_sign byte ≡ b → has_digit (cond b text (byte ∷ text)) ≡ true → is_empty (after_digits (cond b text (byte ∷ text))) ≡ true → IsExp (e ∷ byte ∷ text)
    go true g h k = signed_exp_of e byte text m g h k
    go false g h k = exp m (all_digits (byte ∷ text) k)

exp_of : (text : List ℕ) → is_exponent text ≡ true → IsExp text
exp_of [] h = no_exp
exp_of (e ∷ text) h =
    let (ab, c) = and_parts (is_exponent_mark e && has_digit (without_sign text)) (is_empty (after_digits (without_sign text))) h in
    let (a, b) = and_parts (is_exponent_mark e) (has_digit (without_sign text)) ab in
    exp_of_power e text a b c

frac_of : (text : List ℕ) → has_digit text ≡ true → IsFrac (46 ∷ digits_of text)
frac_of [] h = cc h
frac_of (digit ∷ text) h =
    let a : all_ascii_digits (digit ∷ digits_of text) ≡ true = rw (h, front_all is_ascii_digit text) refl in
    rw h (frac a)

record HasTail (text : List ℕ) : Type 0 where
  part : List ℕ
  power : List ℕ
  is : text ≡ part ++ power
  is_frac : IsFrac part
  is_exp : IsExp power

tail_of : (text : List ℕ) → is_tail text ≡ true → HasTail text
tail_of [] h = record { part = []; power = []; is = refl; is_frac = no_frac; is_exp = no_exp }
tail_of (byte ∷ text) h = go (byte == 46) refl h
  where
    go : (b : Bool) → (byte == 46) ≡ b → cond b (has_digit text && is_exponent (after_digits text)) (is_exponent (byte ∷ text)) ≡ true → HasTail (byte ∷ text)
    go true e k =
        let (a, b) = and_parts (has_digit text) (is_exponent (after_digits text)) k in
        let point_is : byte ≡ 46 = grind (arith, nat_tests) in record {
          part = 46 ∷ digits_of text;
          power = after_digits text;
          is = ap (λ x. x ∷ text) point_is ∙ ap (λ x. 46 ∷ x) (sym (front_and_rest is_ascii_digit text));
          is_frac = frac_of text a;
          is_exp = exp_of (after_digits text) b;
        }
    go false e k = record { part = []; power = byte ∷ text; is = refl; is_frac = no_frac; is_exp = exp_of (byte ∷ text) k }

abbrev IsUnsigned : List ℕ → Bool
IsUnsigned text = is_decimal (digits_of text) && is_tail (after_digits text)

parts_are : (text : List ℕ) (t : HasTail (after_digits text)) → digits_of text ++ (t.part ++ t.power) ≡ text
parts_are text t = ap (λ x. digits_of text ++ x) (sym t.is) ∙ front_and_rest is_ascii_digit text

unsigned_of : (text : List ℕ) → IsUnsigned text ≡ true → IsNumber text
unsigned_of text h =
    let (a, b) = and_parts (is_decimal (digits_of text)) (is_tail (after_digits text)) h in
    let t = tail_of (after_digits text) b in
    subst IsNumber (parts_are text t) (unsigned (int_of (digits_of text) a) t.is_frac t.is_exp)

signed_of : (text : List ℕ) → IsUnsigned text ≡ true → IsNumber (45 ∷ text)
signed_of text h =
    let (a, b) = and_parts (is_decimal (digits_of text)) (is_tail (after_digits text)) h in
    let t = tail_of (after_digits text) b in
    subst (λ x. IsNumber (45 ∷ x)) (parts_are text t) (signed (int_of (digits_of text) a) t.is_frac t.is_exp)

pub tested_number : (text : List ℕ) → is_json_number text ≡ true → IsNumber text
tested_number [] h = cc h
tested_number (byte ∷ text) h = go (byte == 45) refl h
  where
    go : (b : Bool) → (byte == 45) ≡ b → IsUnsigned (cond b text (byte ∷ text)) ≡ true → IsNumber (byte ∷ text)
    go true e k = let minus_is : byte ≡ 45 = grind (arith, nat_tests) in rw minus_is (signed_of text k)
    go false e k = unsigned_of (byte ∷ text) k

-- ---- its bytes

digit_byte : (byte : ℕ) → is_ascii_digit byte ≡ true → is_number_byte byte ≡ true
digit_byte byte h = rw h refl

or_true : (a b : Bool) → b ≡ true → (a || b) ≡ true
or_true true b h = refl
or_true false b h = h

digit_bytes : (text : List ℕ) → all_ascii_digits text ≡ true → list_all is_number_byte text ≡ true
digit_bytes [] h = refl
digit_bytes (digit ∷ text) h =
    let (a, b) = and_parts (is_ascii_digit digit) (all_ascii_digits text) h in
    rw (digit_byte digit a, digit_bytes text b) refl

whole_bytes : (text : List ℕ) → is_decimal text ≡ true → list_all is_number_byte text ≡ true
whole_bytes [] h = refl
whole_bytes (digit ∷ []) h = rw (digit_byte digit h) refl
whole_bytes (digit ∷ next ∷ text) h =
    let (a, b) = and_parts (is_in_range 49 57 digit) (all_ascii_digits (next ∷ text)) h in
    rw (digit_byte digit (grind (arith, nat_tests)), digit_bytes (next ∷ text) b) refl

sign_bytes : (power : List ℕ) → list_all is_number_byte (without_sign power) ≡ true → list_all is_number_byte power ≡ true
sign_bytes [] h = refl
sign_bytes (byte ∷ power) h = go (byte == 43) (byte == 45) refl refl h
  where
    go : (plus minus : Bool) → (byte == 43) ≡ plus → (byte == 45) ≡ minus
        → list_all is_number_byte (cond (plus || minus) power (byte ∷ power)) ≡ true → list_all is_number_byte (byte ∷ power) ≡ true
    go true minus e f k = let g : byte ≡ 43 = grind (arith, nat_tests) in rw (g, k) refl
    go false true e f k = let g : byte ≡ 45 = grind (arith, nat_tests) in rw (g, k) refl
    go false false e f k = k

minus_bytes : (text : List ℕ) → list_all is_number_byte (without_minus text) ≡ true → list_all is_number_byte text ≡ true
minus_bytes [] h = refl
minus_bytes (byte ∷ text) h = go (byte == 45) refl h
  where
    go : (minus : Bool) → (byte == 45) ≡ minus → list_all is_number_byte (cond minus text (byte ∷ text)) ≡ true → list_all is_number_byte (byte ∷ text) ≡ true
    go true e k = let g : byte ≡ 45 = grind (arith, nat_tests) in rw (g, k) refl
    go false e k = k

two_parts : (xs ys zs : List ℕ) → xs ++ ys ≡ zs → list_all is_number_byte xs ≡ true → list_all is_number_byte ys ≡ true → list_all is_number_byte zs ≡ true
two_parts xs ys zs e h k = ap (list_all is_number_byte) (sym e) ∙ list_all-append is_number_byte xs ys ∙ rw (h, k) refl

nothing_left : (bytes : List ℕ) → is_empty bytes ≡ true → list_all is_number_byte bytes ≡ true
nothing_left [] h = refl
nothing_left (byte ∷ bytes) h = cc h

front_bytes : (text : List ℕ) → list_all is_number_byte (after_digits text) ≡ true → list_all is_number_byte text ≡ true
front_bytes text h = two_parts (digits_of text) (after_digits text) text (front_and_rest is_ascii_digit text) (digit_bytes (digits_of text) (front_all is_ascii_digit text)) h

exponent_bytes : (exponent : List ℕ) → is_exponent exponent ≡ true → list_all is_number_byte exponent ≡ true
exponent_bytes [] h = refl
exponent_bytes (e ∷ power) h =
    let (ab, c) = and_parts (is_exponent_mark e && has_digit (without_sign power)) (is_empty (after_digits (without_sign power))) h in
    let (a, b) = and_parts (is_exponent_mark e) (has_digit (without_sign power)) ab in
    let letter : is_number_byte e ≡ true = or_true (is_ascii_digit e || is_sign e || (e == 46)) (is_exponent_mark e) a in
    rw (letter, sign_bytes power (front_bytes (without_sign power) (nothing_left (after_digits (without_sign power)) c))) refl

tail_bytes : (tail : List ℕ) → is_tail tail ≡ true → list_all is_number_byte tail ≡ true
tail_bytes [] h = refl
tail_bytes (byte ∷ bytes) h = go (byte == 46) refl h
  where
    go : (b : Bool) → (byte == 46) ≡ b → cond b (has_digit bytes && is_exponent (after_digits bytes)) (is_exponent (byte ∷ bytes)) ≡ true → list_all is_number_byte (byte ∷ bytes) ≡ true
    go true e k =
        let (a, b) = and_parts (has_digit bytes) (is_exponent (after_digits bytes)) k in
        let g : byte ≡ 46 = grind (arith, nat_tests) in
        rw (g, front_bytes bytes (exponent_bytes (after_digits bytes) b)) refl
    go false e k = exponent_bytes (byte ∷ bytes) k

tested_bytes : (text : List ℕ) → is_json_number text ≡ true → list_all is_number_byte text ≡ true
tested_bytes text h =
    let unsigned = without_minus text in
    let (a, b) = and_parts (is_decimal (digits_of unsigned)) (is_tail (after_digits unsigned)) h in
    minus_bytes text (two_parts (digits_of unsigned) (after_digits unsigned) unsigned (front_and_rest is_ascii_digit unsigned) (whole_bytes (digits_of unsigned) a) (tail_bytes (after_digits unsigned) b))

pub number_bytes : (text : List ℕ) → IsNumber text → list_all is_number_byte text ≡ true
number_bytes text n = tested_bytes text (number_tested n)

-- ---- a number is the longest run of bytes of numbers

pub number_run : {bytes text rest : List ℕ} → bytes ≡ text ++ rest → IsNumber text → starts_number rest ≡ false → IsLongestRun bytes text rest
number_run {bytes} {text} {rest} e n r =
    let (a, b) = no_number_front rest r in
    let (f, g) = fronts is_number_byte text rest (number_bytes text n) a b in
    record { run = ap (front is_number_byte) e ∙ f; after = ap (after_front is_number_byte) e ∙ g; tested = number_tested n }

-- what stands there passes the test
pub run_tested : {bytes text : List ℕ} (rest : List ℕ) → bytes ≡ text ++ rest → IsNumber text → starts_number rest ≡ false → is_json_number (front is_number_byte bytes) ≡ true
run_tested rest e n r = let run = number_run e n r in ap is_json_number run.run ∙ run.tested

-- the longest run, where it passes the test, is a value
abbrev pub run_value : {bytes : List ℕ} → IsTrue (is_json_number (front is_number_byte bytes)) → IsValue bytes (Number (front is_number_byte bytes)) (after_front is_number_byte bytes)
run_value {bytes} h = number (sym (front_and_rest is_number_byte bytes)) (tested_number (front is_number_byte bytes) h)

pub numbers_are_runs : (bytes text rest : List ℕ) → IsValue bytes (Number text) rest × (starts_number rest ≡ false) → IsLongestRun bytes text rest
numbers_are_runs bytes text rest (number e n, r) = number_run e n r

run_ends : (bytes : List ℕ) → starts_number (after_front is_number_byte bytes) ≡ false
run_ends [] = refl
run_ends (byte ∷ bytes) = go (is_number_byte byte) refl (run_ends bytes)
  where
    go : (b : Bool) → is_number_byte byte ≡ b → starts_number (after_front is_number_byte bytes) ≡ false → starts_number (cond b (after_front is_number_byte bytes) (byte ∷ bytes)) ≡ false
    go true e h = h
    go false e h = e

pub runs_are_numbers : (bytes text rest : List ℕ) → IsLongestRun bytes text rest → IsValue bytes (Number text) rest × (starts_number rest ≡ false)
runs_are_numbers bytes text rest run =
    let h : is_json_number (front is_number_byte bytes) ≡ true = ap is_json_number run.run ∙ run.tested in
    (subst (λ x. IsValue bytes (Number x) rest) run.run (subst (λ x. IsValue bytes (Number (front is_number_byte bytes)) x) run.after (run_value h)), ap starts_number (sym run.after) ∙ run_ends bytes)

-- ---- what a number begins with, and what follows a value

-- a minus or a digit
abbrev pub starts_as_number : List ℕ → Bool
starts_as_number [] = false
starts_as_number (byte ∷ _) = (byte == 45) || is_ascii_digit byte

number_starts : {text : List ℕ} (rest : List ℕ) → IsNumber text → starts_as_number (text ++ rest) ≡ true
number_starts rest (unsigned grammar.zero f x) = refl
number_starts rest (unsigned (nonzero {first = first} r a) f x) = or_true (first == 45) (is_ascii_digit first) (range_digit first r)
number_starts rest (signed i f x) = refl

pub number_first : {bytes text : List ℕ} (rest : List ℕ) → bytes ≡ text ++ rest → IsNumber text → starts_as_number bytes ≡ true
number_first rest e n = ap starts_as_number e ∙ number_starts rest n

space_apart : (byte : ℕ) → is_space byte ≡ true → is_number_byte byte ≡ false
space_apart byte h = grind (arith, nat_tests)

-- no number goes on with it
pub record EndsNumber (rest : List ℕ) : Type 0 where
  pub ends : starts_number rest ≡ false

pub mark_follows : {after rest : List ℕ} {byte : ℕ} → after_space after ≡ byte ∷ rest → is_number_byte byte ≡ false → EndsNumber after
mark_follows {after = []} e h = record { ends = refl }
mark_follows {after = first ∷ after} {rest} {byte} e h = record { ends = go (is_space first) refl e }
  where
    go : (b : Bool) → is_space first ≡ b → cond b (after_space after) (first ∷ after) ≡ byte ∷ rest → is_number_byte first ≡ false
    go true s f = space_apart first s
    go false s f = let same : first ≡ byte = cc in ap is_number_byte same ∙ h

pub end_follows : {after : List ℕ} → after_space after ≡ [] → EndsNumber after
end_follows {after = []} e = record { ends = refl }
end_follows {after = first ∷ after} e = record { ends = go (is_space first) refl e }
  where
    go : (b : Bool) → is_space first ≡ b → cond b (after_space after) (first ∷ after) ≡ [] → is_number_byte first ≡ false
    go true s f = space_apart first s
    go false s f = cc f
