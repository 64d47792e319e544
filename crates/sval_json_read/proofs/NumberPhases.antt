-- From each phase the machine of numbers takes exactly what completes a number.
use Rattle.std.specs.Prelude.{◌≡◌, ℕ, Bool, true, false, cond, ◌&&◌, ◌==◌, List, [], ◌∷◌, Option, Some, None, refl}
use Rattle.std.specs.Int.{is_in_range}
use Rattle.std.specs.Char.{is_ascii_digit}
use Rattle.std.specs.Str.{all_ascii_digits}
use Rattle.std.proofs.Common.{sym, arith}
use Rattle.std.proofs.lemmas.Bool.Decides.{nat_tests}
use Rattle.sval_label.specs.Texts.{is_empty, is_decimal}
use Rattle.sval_json.specs.Digits.{minus, point, zero_digit, is_sign, is_exponent_mark, digits_of, after_digits, has_digit, without_sign, is_exponent, is_tail, is_json_number}
use Rattle.sval_json_read.specs.Numbers.{NumberPhase, Minus, Zero, Whole, Point, Fraction, Mark, Sign, Power, number_may_end, phase_when, first_digit, first_phase, exponent_begins, tail_begins, next_phase}

-- the texts that complete a number, by what of it was read
abbrev pub completes : NumberPhase → List ℕ → Bool
completes Minus text = is_decimal (digits_of text) && is_tail (after_digits text)
completes Zero text = is_tail text
completes Whole text = is_tail (after_digits text)
completes Point text = has_digit text && is_exponent (after_digits text)
completes Fraction text = is_exponent (after_digits text)
completes Mark text = has_digit (without_sign text) && is_empty (after_digits (without_sign text))
completes Sign text = has_digit text && is_empty (after_digits text)
completes Power text = is_empty (after_digits text)

abbrev pub completes_after : Option NumberPhase → List ℕ → Bool
completes_after None text = false
completes_after (Some phase) text = completes phase text

pub may_end-completes : (phase : NumberPhase) → completes phase [] ≡ number_may_end phase
may_end-completes Minus = refl
may_end-completes Zero = refl
may_end-completes Whole = refl
may_end-completes Point = refl
may_end-completes Fraction = refl
may_end-completes Mark = refl
may_end-completes Sign = refl
may_end-completes Power = refl

exponent : (byte : ℕ) (text : List ℕ) → is_exponent (byte ∷ text) ≡ completes_after (exponent_begins byte) text
exponent byte text = go (is_exponent_mark byte)
  where
    go : (m : Bool) → (m && has_digit (without_sign text) && is_empty (after_digits (without_sign text))) ≡ completes_after (phase_when m Mark) text
    go true = refl
    go false = refl

tail : (byte : ℕ) (text : List ℕ) → is_tail (byte ∷ text) ≡ completes_after (tail_begins byte) text
tail byte text = go (byte == point)
  where
    go : (p : Bool) → cond p (has_digit text && is_exponent (after_digits text)) (is_exponent (byte ∷ text)) ≡ completes_after (cond p (Some Point) (exponent_begins byte)) text
    go true = refl
    go false = exponent byte text

-- digits that a text begins with are digits
front_digits : (text : List ℕ) → all_ascii_digits (digits_of text) ≡ true
front_digits [] = refl
front_digits (byte ∷ text) = go (is_ascii_digit byte) refl (front_digits text)
  where
    go : (d : Bool) → is_ascii_digit byte ≡ d → all_ascii_digits (digits_of text) ≡ true → all_ascii_digits (cond d (byte ∷ digits_of text) []) ≡ true
    go true e h = rw (e, h) refl
    go false e h = refl

digit_no_tail : (byte : ℕ) (text : List ℕ) → is_ascii_digit byte ≡ true → is_tail (byte ∷ text) ≡ false
digit_no_tail byte text h =
    let p : (byte == point) ≡ false = grind (arith, nat_tests) in
    let m : is_exponent_mark byte ≡ false = grind (arith, nat_tests) in
    rw (p, m) refl

after_zero : (text : List ℕ) → (is_decimal (zero_digit ∷ digits_of text) && is_tail (after_digits text)) ≡ is_tail text
after_zero [] = refl
after_zero (byte ∷ text) = go (is_ascii_digit byte) refl
  where
    go : (d : Bool) → is_ascii_digit byte ≡ d
        → (is_decimal (zero_digit ∷ cond d (byte ∷ digits_of text) []) && is_tail (cond d (after_digits text) (byte ∷ text))) ≡ is_tail (byte ∷ text)
    go true e = sym (digit_no_tail byte text e)
    go false e = refl

decimal_from : (byte : ℕ) (digits : List ℕ) → is_ascii_digit byte ≡ true → (byte == zero_digit) ≡ false → all_ascii_digits digits ≡ true → is_decimal (byte ∷ digits) ≡ true
decimal_from byte [] d z h = d
decimal_from byte (next ∷ digits) d z h = let r : is_in_range 49 57 byte ≡ true = grind (arith, nat_tests) in rw (r, h) refl

is_zero : (byte : ℕ) → (byte == zero_digit) ≡ true → byte ≡ zero_digit
is_zero byte h = grind (arith, nat_tests)

digits_begin : (byte : ℕ) (text : List ℕ) → completes Minus (byte ∷ text) ≡ completes_after (first_digit byte) text
digits_begin byte text = go (byte == zero_digit) (is_ascii_digit byte) refl refl
  where
    go : (z d : Bool) → (byte == zero_digit) ≡ z → is_ascii_digit byte ≡ d
        → (is_decimal (cond d (byte ∷ digits_of text) []) && is_tail (cond d (after_digits text) (byte ∷ text))) ≡ completes_after (cond z (Some Zero) (phase_when d Whole)) text
    go true true e f = rw (is_zero byte e) (after_zero text)
    go true false e f = let g : is_ascii_digit byte ≡ true = grind (arith, nat_tests) in absurd (cc)
    go false true e f = rw (decimal_from byte (digits_of text) f e (front_digits text)) refl
    go false false e f = refl

-- one byte more
pub next-completes : (phase : NumberPhase) (byte : ℕ) (text : List ℕ) → completes phase (byte ∷ text) ≡ completes_after (next_phase phase byte) text
next-completes Minus byte text = digits_begin byte text
next-completes Zero byte text = tail byte text
next-completes Whole byte text = go (is_ascii_digit byte)
  where
    go : (d : Bool) → is_tail (cond d (after_digits text) (byte ∷ text)) ≡ completes_after (cond d (Some Whole) (tail_begins byte)) text
    go true = refl
    go false = tail byte text
next-completes Point byte text = go (is_ascii_digit byte)
  where
    go : (d : Bool) → (d && is_exponent (cond d (after_digits text) (byte ∷ text))) ≡ completes_after (phase_when d Fraction) text
    go true = refl
    go false = refl
next-completes Fraction byte text = go (is_ascii_digit byte)
  where
    go : (d : Bool) → is_exponent (cond d (after_digits text) (byte ∷ text)) ≡ completes_after (cond d (Some Fraction) (exponent_begins byte)) text
    go true = refl
    go false = exponent byte text
next-completes Mark byte text = go (is_sign byte) (is_ascii_digit byte) refl
  where
    go : (s d : Bool) → is_ascii_digit byte ≡ d
        → (has_digit (cond s text (byte ∷ text)) && is_empty (after_digits (cond s text (byte ∷ text)))) ≡ completes_after (cond s (Some Sign) (phase_when d Power)) text
    go true d e = refl
    go false true e = rw e refl
    go false false e = rw e refl
next-completes Sign byte text = go (is_ascii_digit byte)
  where
    go : (d : Bool) → (d && is_empty (cond d (after_digits text) (byte ∷ text))) ≡ completes_after (phase_when d Power) text
    go true = refl
    go false = refl
next-completes Power byte text = go (is_ascii_digit byte)
  where
    go : (d : Bool) → is_empty (cond d (after_digits text) (byte ∷ text)) ≡ completes_after (phase_when d Power) text
    go true = refl
    go false = refl

-- the first byte
pub first-completes : (byte : ℕ) (text : List ℕ) → is_json_number (byte ∷ text) ≡ completes_after (first_phase byte) text
first-completes byte text = go (byte == minus)
  where
    go : (m : Bool) → completes Minus (cond m text (byte ∷ text)) ≡ completes_after (cond m (Some Minus) (first_digit byte)) text
    go true = refl
    go false = digits_begin byte text
