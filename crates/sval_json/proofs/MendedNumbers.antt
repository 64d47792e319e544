-- A text that is no number goes on as one, from where the machine stopped in it.
use Rattle.std.specs.Prelude.{◌≡◌, ℕ, Bool, true, false, List, [], ◌∷◌, ◌++◌, if◌then◌else◌, ◌==◌, Ok, refl, ◌⊎◌, codes, Option, Some, None, Err, IsUtf8}
use Rattle.std.specs.Char.{is_ascii_digit}
use Rattle.std.proofs.Common.{sym, ap, ◌∙◌, subst, inl, inr, append_assoc}
use Rattle.sval_json.specs.Digits.{is_sign, is_exponent_mark, zero_digit, minus, point}
use Rattle.sval_json.specs.Number.{begins_word, Phase, Start, Signed, Zero, Whole, Point, Fraction, Exponent, ExponentSign, ExponentDigits, Word, Machine, NumberReading, takes_byte, stops, word_or_stop, take_byte, take_bytes, answer, InvalidNumber, normal, number_at_end, number_answer}
use Rattle.sval_json.specs.Grammar.{IsNumber}
use Rattle.sval_json.specs.Laws.{BeginsWith}
use Rattle.sval_json.proofs.Numbers.{prefix, answer_prefix, machine, machine_is_normal}
use Rattle.sval_json.proofs.NumberTexts.{ascii_utf8, number_utf8, normal_form}
use Rattle.sval_json.proofs.Texts.{normal_twice}
use Rattle.sval_json.proofs.Writing.{machine_start}

-- a byte that is not taken writes nothing
abbrev IsQuiet : NumberReading → Type 0
IsQuiet r = r.valid ≡ false → r.written ≡ []

either_quiet : (b : Bool) (x y : NumberReading) → IsQuiet x → IsQuiet y → IsQuiet (if b then x else y)
either_quiet true x y q r = q
either_quiet false x y q r = r

moves_quiet : (bytes : List ℕ) (n : Bool) (p : Phase) → IsQuiet (takes_byte bytes n p)
moves_quiet bytes n p e = cc e

stops_quiet : (m : Machine) → IsQuiet (stops m)
stops_quiet m e = refl

word_quiet : (n : Bool) (p : Phase) (b : ℕ) → IsQuiet (word_or_stop n p b)
word_quiet n p b = either_quiet (begins_word b) _ _ (moves_quiet _ n Word) (stops_quiet (machine n p))

byte_quiet : (n : Bool) (p : Phase) (b : ℕ) → IsQuiet (take_byte n p b)
byte_quiet n Start b =
    either_quiet (is_sign b) _ _ (moves_quiet _ (b == minus) Signed)
    (either_quiet (b == zero_digit) _ _ (moves_quiet _ n Zero) (either_quiet (is_ascii_digit b) _ _ (moves_quiet _ n Whole) (word_quiet n Start b)))
byte_quiet n Signed b = either_quiet (b == zero_digit) _ _ (moves_quiet _ n Zero) (either_quiet (is_ascii_digit b) _ _ (moves_quiet _ n Whole) (word_quiet n Signed b))
byte_quiet n Zero b =
    either_quiet (b == zero_digit) _ _ (moves_quiet _ n Zero)
    (either_quiet (is_ascii_digit b) _ _ (moves_quiet _ n Whole)
    (either_quiet (b == point) _ _ (moves_quiet _ n Point) (either_quiet (is_exponent_mark b) _ _ (moves_quiet _ n Exponent) (stops_quiet (machine n Zero)))))
byte_quiet n Whole b =
    either_quiet (is_ascii_digit b) _ _ (moves_quiet _ n Whole)
    (either_quiet (b == point) _ _ (moves_quiet _ n Point) (either_quiet (is_exponent_mark b) _ _ (moves_quiet _ n Exponent) (stops_quiet (machine n Whole))))
byte_quiet n Point b = either_quiet (is_ascii_digit b) _ _ (moves_quiet _ n Fraction) (stops_quiet (machine n Point))
byte_quiet n Fraction b = either_quiet (is_ascii_digit b) _ _ (moves_quiet _ n Fraction) (either_quiet (is_exponent_mark b) _ _ (moves_quiet _ n Exponent) (stops_quiet (machine n Fraction)))
byte_quiet n Exponent b = either_quiet (is_sign b) _ _ (moves_quiet _ n ExponentSign) (either_quiet (is_ascii_digit b) _ _ (moves_quiet _ n ExponentDigits) (stops_quiet (machine n Exponent)))
byte_quiet n ExponentSign b = either_quiet (is_ascii_digit b) _ _ (moves_quiet _ n ExponentDigits) (stops_quiet (machine n ExponentSign))
byte_quiet n ExponentDigits b = either_quiet (is_ascii_digit b) _ _ (moves_quiet _ n ExponentDigits) (stops_quiet (machine n ExponentDigits))
byte_quiet n Word b = moves_quiet [] n Word

-- the other bytes are a number, and what is written for these begins what is written for it
pub record Completes (m : Machine) (bytes other : List ℕ) : Type 0 where
  pub out : List ℕ
  pub is_number : answer (take_bytes m other) ≡ Ok out
  pub begins : BeginsWith (take_bytes m other).written (take_bytes m bytes).written

-- a zero may come anywhere, and the number may end with it
zero_ends : (n : Bool) (p : Phase) → (out : List ℕ) × (answer (take_bytes (machine n p) (zero_digit ∷ [])) ≡ Ok out)
zero_ends n Start = (_, refl)
zero_ends n Signed = (_, refl)
zero_ends n Zero = (_, refl)
zero_ends n Whole = (_, refl)
zero_ends n Point = (_, refl)
zero_ends n Fraction = (_, refl)
zero_ends n Exponent = (_, refl)
zero_ends n ExponentSign = (_, refl)
zero_ends n ExponentDigits = (_, refl)
zero_ends n Word = (_, refl)

-- what a byte makes of the rest
read_on : NumberReading → List ℕ → NumberReading
read_on now bytes =
    let later : NumberReading = take_bytes now.machine bytes in
    if now.valid then record { written = now.written ++ later.written; machine = later.machine; valid = later.valid } else now

reads_on : (now : NumberReading) (bytes : List ℕ) → now.valid ≡ true
    → read_on now bytes ≡ (let later : NumberReading = take_bytes now.machine bytes in record { written = now.written ++ later.written; machine = later.machine; valid = later.valid })
unfolding read_on
reads_on now bytes e = rw e refl

reads_off : (now : NumberReading) (bytes : List ℕ) → now.valid ≡ false → read_on now bytes ≡ now
unfolding read_on
reads_off now bytes e = rw e refl

-- one more byte was taken before
one_more : (m : Machine) (byte : ℕ) (bytes other : List ℕ) → (take_byte m.negative m.phase byte).valid ≡ true → Completes (take_byte m.negative m.phase byte).machine bytes other
    → Completes m (byte ∷ bytes) (byte ∷ other)
unfolding read_on
one_more m byte bytes other e later =
    let now : NumberReading = take_byte m.negative m.phase byte in
    let whole : NumberReading = take_bytes now.machine other in
    record {
      out = now.written ++ later.out;
      is_number = ap answer (reads_on now other e) ∙ answer_prefix now.written whole.written whole.machine whole.valid ∙ ap (prefix now.written) later.is_number;
      begins = (
        later.begins.0,
        ap (λ r. r.written) (reads_on now other e) ∙ ap (λ w. now.written ++ w) later.begins.1
            ∙ sym (append_assoc now.written (take_bytes now.machine bytes).written later.begins.0)
            ∙ ap (λ r. r.written ++ later.begins.0) (sym (reads_on now bytes e)),
      );
    }

-- the byte was not taken
none_more : (m : Machine) (byte : ℕ) (bytes : List ℕ) → (take_byte m.negative m.phase byte).valid ≡ false → Completes m (byte ∷ bytes) (zero_digit ∷ [])
unfolding read_on
none_more m byte bytes e =
    let now : NumberReading = take_byte m.negative m.phase byte in
    let end = zero_ends m.negative m.phase in
    let nothing : (take_bytes m (byte ∷ bytes)).written ≡ [] = ap (λ r. r.written) (reads_off now bytes e) ∙ byte_quiet m.negative m.phase byte e in
    record {
      out = end.0;
      is_number = end.1;
      begins = (_, ap (λ w. w ++ (take_bytes m (zero_digit ∷ [])).written) (sym nothing));
    }

by_byte : (m : Machine) (byte : ℕ) (bytes : List ℕ) (v : Bool) → (take_byte m.negative m.phase byte).valid ≡ v
    → ((other : List ℕ) × Completes (take_byte m.negative m.phase byte).machine bytes other) → (other : List ℕ) × Completes m (byte ∷ bytes) other
by_byte m byte bytes true e later = (byte ∷ later.0, one_more m byte bytes later.0 e later.1)
by_byte m byte bytes false e later = (zero_digit ∷ [], none_more m byte bytes e)

-- some bytes are a number that goes on where the machine stopped in these
pub completes : (m : Machine) (bytes : List ℕ) → (other : List ℕ) × Completes m bytes other
completes m [] = let end = zero_ends m.negative m.phase in (zero_digit ∷ [], record { out = end.0; is_number = end.1; begins = (_, refl) })
completes m (byte ∷ bytes) = by_byte m byte bytes (take_byte m.negative m.phase byte).valid refl (completes (take_byte m.negative m.phase byte).machine bytes)

-- ---- the number itself

pub begins_on : (c : List ℕ) {a b : List ℕ} → BeginsWith a b → BeginsWith b c → BeginsWith a c
begins_on c p q = (q.0 ++ p.0, p.1 ∙ ap (λ w. w ++ p.0) q.1 ∙ append_assoc c q.0 p.0)

answered : (v : Bool) (end : Option (List ℕ)) (w out : List ℕ) → (if v then number_answer end w else Err InvalidNumber) ≡ Ok out → BeginsWith out w
answered false end w out e = cc e
answered true None w out e = cc e
answered true (Some end) w out e = let whole : w ++ end ≡ out = cc e in (end, sym whole)

normal_utf8 : (out : List ℕ) → IsNumber out ⊎ (out ≡ codes "null") → IsUtf8 out
normal_utf8 out (inl number) = number_utf8 out number
normal_utf8 out (inr e) = subst IsUtf8 (sym e) (ascii_utf8 (codes "null") refl)

-- the other text is a number in its normal form, and begins with what is written for this one
pub record GoesOnAs (text other : List ℕ) : Type 0 where
  pub is_number : normal other ≡ Ok other
  pub begins : BeginsWith other (take_bytes machine_start text).written
  pub utf8 : IsUtf8 other

-- some number begins with what is written for a text, also where that is none
pub goes_on_as : (text : List ℕ) → (other : List ℕ) × GoesOnAs text other
goes_on_as text =
    let c = completes machine_start text in
    let r : NumberReading = take_bytes machine_start c.0 in
    let is : normal c.0 ≡ Ok c.1.out = sym (machine_is_normal c.0) ∙ c.1.is_number in (
      c.1.out,
      record {
        is_number = normal_twice c.0 c.1.out is;
        begins = begins_on (take_bytes machine_start text).written (answered r.valid (number_at_end r.machine.phase) r.written c.1.out c.1.is_number) c.1.begins;
        utf8 = normal_utf8 c.1.out (normal_form c.0 c.1.out is);
      },
    )
