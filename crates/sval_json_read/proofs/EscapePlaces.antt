-- An escape by the places of its bytes: for code that decodes one.
use Rattle.std.specs.Prelude.{◌≡◌, ℕ, ◌+◌, ◌*◌, ◌<◌, ◌≤◌, Bool, true, false, ◌||◌, List, [], ◌∷◌, length, drop, get_or, Some, None, refl}
use Rattle.std.specs.Char.{encode_utf8, digit_value, IsScalar}
use Rattle.std.proofs.Common.{sym, ap, subst, ◌∙◌, arith, length-drop, get_or-drop}
use Rattle.std.proofs.lemmas.Bool.Decides.{nat_tests}
use Rattle.sval_json.specs.Grammar.{escaped_byte, code_unit, is_high_surrogate, is_low_surrogate, pair_of}
use Rattle.sval_json_read.specs.RawStrings.{unit_from, IsRaw, plain, short, unit, pair}
use Rattle.sval_json_read.specs.Calls.{Escape, unit_after, unit_escape, short_or, escape_after}
use Rattle.sval_json_read.proofs.PieceTexts.{alone}
use Rattle.sval_json_read.proofs.StringRuns.{unit_value}
use Rattle.sval_json_read.proofs.Utf8Texts.{are_hex, unit_scalar, pair_scalar}

pub unit_at : (bytes : List ℕ) → 5 ≤ length bytes → unit_after bytes ≡ code_unit (get_or bytes 1 0) (get_or bytes 2 0) (get_or bytes 3 0) (get_or bytes 4 0)
unit_at [] h = absurd (omega arith)
unit_at (u ∷ []) h = absurd (omega arith)
unit_at (u ∷ a ∷ []) h = absurd (omega arith)
unit_at (u ∷ a ∷ b ∷ []) h = absurd (omega arith)
unit_at (u ∷ a ∷ b ∷ c ∷ []) h = absurd (omega arith)
unit_at (u ∷ a ∷ b ∷ c ∷ d ∷ bytes) h = refl

pub escape_at : (bytes : List ℕ) → 0 < length bytes → escape_after bytes ≡ short_or (escaped_byte (get_or bytes 0 0)) (unit_escape (unit_after bytes) (unit_after (drop 6 bytes)))
escape_at [] h = absurd (omega arith)
escape_at (letter ∷ bytes) h = refl

-- a low surrogate's escape behind that of a high one
pub record HasLow (bytes : List ℕ) : Type 0 where
  pub long : 11 ≤ length bytes
  pub low : ℕ
  pub is_unit : unit_after (drop 6 bytes) ≡ Some low
  pub is_low : is_low_surrogate low ≡ true

-- what follows the backslash is no short escape, but that of a unit, or of two surrogates
pub record HasUnit (bytes : List ℕ) : Type 0 where
  pub long : 5 ≤ length bytes
  pub letter : get_or bytes 0 0 ≡ 117
  pub unit : ℕ
  pub is_unit : unit_after bytes ≡ Some unit
  pub is_not_low : is_low_surrogate unit ≡ false
  pub pair : is_high_surrogate unit ≡ true → HasLow bytes

pub raw_begins : (bytes : List ℕ) → IsRaw (92 ∷ bytes) → 0 < length bytes
raw_begins bytes (plain h r) = cc h
raw_begins bytes (short e r) = omega arith
raw_begins bytes (unit e f r) = omega arith
raw_begins bytes (pair p q r t s) = omega arith

no_surrogate : (a b : Bool) → (a || b) ≡ false → (a ≡ false) × (b ≡ false)
no_surrogate false b e = (refl, e)
no_surrogate true b e = absurd (cc e)

not_low : (u : ℕ) → is_high_surrogate u ≡ true → is_low_surrogate u ≡ false
not_low u h = grind (arith, nat_tests)

pub raw_unit : (bytes : List ℕ) → IsRaw (92 ∷ bytes) → escaped_byte (get_or bytes 0 0) ≡ None → HasUnit bytes
raw_unit bytes (plain h r) n = absurd (cc h)
raw_unit bytes (short e r) n = absurd (cc (e, n))
raw_unit bytes (unit {u = u} e f r) n =
    let k = no_surrogate (is_high_surrogate u) (is_low_surrogate u) f in
    record { long = omega arith; letter = refl; unit = u; is_unit = e; is_not_low = k.1; pair = λ h. let g = k.0 in absurd (cc) }
raw_unit bytes (pair {high = high} {low = low} p q r t s) n = record {
  long = omega arith;
  letter = refl;
  unit = high;
  is_unit = p;
  is_not_low = not_low high q;
  pair = λ h. record { long = omega arith; low = low; is_unit = r; is_low = t };
}

-- ---- what it stands for

pub short_escape_is : (bytes : List ℕ) (byte : ℕ) → 0 < length bytes → escaped_byte (get_or bytes 0 0) ≡ Some byte → escape_after bytes ≡ record { stands_for = byte ∷ []; follow = 1 }
short_escape_is bytes byte l e = escape_at bytes l ∙ ap (λ o. short_or o (unit_escape (unit_after bytes) (unit_after (drop 6 bytes)))) e

unit_only : (bytes : List ℕ) → 0 < length bytes → escaped_byte (get_or bytes 0 0) ≡ None → escape_after bytes ≡ unit_escape (unit_after bytes) (unit_after (drop 6 bytes))
unit_only bytes l n = escape_at bytes l ∙ ap (λ o. short_or o (unit_escape (unit_after bytes) (unit_after (drop 6 bytes)))) n

pub unit_escape_is : (bytes : List ℕ) (h : HasUnit bytes) → escaped_byte (get_or bytes 0 0) ≡ None → is_high_surrogate h.unit ≡ false
    → escape_after bytes ≡ record { stands_for = encode_utf8 h.unit; follow = 5 }
unit_escape_is bytes h n k =
    let l = h.long in unit_only bytes (omega arith) n ∙ ap (λ o. unit_escape o (unit_after (drop 6 bytes))) h.is_unit ∙ alone h.unit (unit_after (drop 6 bytes)) k

both : (high low : ℕ) → is_high_surrogate high ≡ true → unit_escape (Some high) (Some low) ≡ record { stands_for = encode_utf8 (pair_of high low); follow = 11 }
both high low h = rw h refl

pub pair_escape_is : (bytes : List ℕ) (h : HasUnit bytes) (l : HasLow bytes) → escaped_byte (get_or bytes 0 0) ≡ None → is_high_surrogate h.unit ≡ true
    → escape_after bytes ≡ record { stands_for = encode_utf8 (pair_of h.unit l.low); follow = 11 }
pair_escape_is bytes h l n k =
    let long = h.long in
    unit_only bytes (omega arith) n ∙ ap (λ o. unit_escape o (unit_after (drop 6 bytes))) h.is_unit ∙ ap (λ o. unit_escape (Some h.unit) o) l.is_unit ∙ both h.unit l.low k

-- the value of a unit's digits
pub digits_of_unit : (bytes : List ℕ) (u : ℕ) → 5 ≤ length bytes → unit_after bytes ≡ Some u
    → digit_value (get_or bytes 1 0) * 4096 + digit_value (get_or bytes 2 0) * 256 + digit_value (get_or bytes 3 0) * 16 + digit_value (get_or bytes 4 0) ≡ u
digits_of_unit bytes u l e = unit_value (get_or bytes 1 0) (get_or bytes 2 0) (get_or bytes 3 0) (get_or bytes 4 0) u (sym (unit_at bytes l) ∙ e)

pub digits_of_low : (bytes : List ℕ) (u : ℕ) → 11 ≤ length bytes → unit_after (drop 6 bytes) ≡ Some u
    → digit_value (get_or bytes 7 0) * 4096 + digit_value (get_or bytes 8 0) * 256 + digit_value (get_or bytes 9 0) * 16 + digit_value (get_or bytes 10 0) ≡ u
digits_of_low bytes u l e =
    let d = digits_of_unit (drop 6 bytes) u (omega (arith, length-drop 6 bytes)) e in
    let p = get_or-drop 6 bytes 1 0 in
    let q = get_or-drop 6 bytes 2 0 in
    let r = get_or-drop 6 bytes 3 0 in
    let s = get_or-drop 6 bytes 4 0 in
    rw (p, q, r, s) at d

-- both are characters
pub unit_is_scalar : (bytes : List ℕ) (h : HasUnit bytes) → is_high_surrogate h.unit ≡ false → IsScalar h.unit
unit_is_scalar bytes h k =
    let l = h.long in
    let e = sym (unit_at bytes l) ∙ h.is_unit in
    unit_scalar h.unit (are_hex (get_or bytes 1 0) (get_or bytes 2 0) (get_or bytes 3 0) (get_or bytes 4 0) h.unit e).small (neither (is_high_surrogate h.unit) (is_low_surrogate h.unit) k h.is_not_low)
  where
    neither : (a b : Bool) → a ≡ false → b ≡ false → (a || b) ≡ false
    neither a b p q = rw (p, q) refl

pub pair_is_scalar : (bytes : List ℕ) (h : HasUnit bytes) (l : HasLow bytes) → is_high_surrogate h.unit ≡ true → IsScalar (pair_of h.unit l.low)
pair_is_scalar bytes h l k = pair_scalar h.unit l.low k l.is_low

-- ---- what code finds that decodes the digits

pub record IsOneUnit (bytes : List ℕ) (code : ℕ) : Type 0 where
  pub is_scalar : IsScalar code
  pub stands_for : encode_utf8 code ≡ (escape_after bytes).stands_for
  pub follow : 5 ≡ (escape_after bytes).follow

pub unit_long : (bytes : List ℕ) → IsRaw (92 ∷ bytes) → escaped_byte (get_or bytes 0 0) ≡ None → 5 ≤ length bytes
unit_long bytes r n = (raw_unit bytes r n).long

pub one_unit : (bytes : List ℕ) (code : ℕ) → IsRaw (92 ∷ bytes) → escaped_byte (get_or bytes 0 0) ≡ None → code ≡ unit_from bytes 1 → is_high_surrogate code ≡ false → IsOneUnit bytes code
one_unit bytes code r n e k =
    let h = raw_unit bytes r n in
    let same : h.unit ≡ code = sym (digits_of_unit bytes h.unit h.long h.is_unit) ∙ sym e in
    let low = subst (λ u. is_high_surrogate u ≡ false) (sym same) k in
    let is = unit_escape_is bytes h n low in
    record {
      is_scalar = subst IsScalar same (unit_is_scalar bytes h low);
      stands_for = ap encode_utf8 (sym same) ∙ sym (ap (λ (x : Escape). x.stands_for) is);
      follow = sym (ap (λ (x : Escape). x.follow) is);
    }

pub record IsTwoUnits (bytes : List ℕ) (high low : ℕ) : Type 0 where
  pub is_low : is_low_surrogate low ≡ true
  pub is_scalar : IsScalar (pair_of high low)
  pub stands_for : encode_utf8 (pair_of high low) ≡ (escape_after bytes).stands_for
  pub follow : 11 ≡ (escape_after bytes).follow

high_unit : (bytes : List ℕ) (high : ℕ) (h : HasUnit bytes) → high ≡ unit_from bytes 1 → is_high_surrogate high ≡ true → (h.unit ≡ high) × (is_high_surrogate h.unit ≡ true)
high_unit bytes high h e k =
    let same : h.unit ≡ high = sym (digits_of_unit bytes h.unit h.long h.is_unit) ∙ sym e in (same, subst (λ u. is_high_surrogate u ≡ true) (sym same) k)

pub pair_long : (bytes : List ℕ) (high : ℕ) → IsRaw (92 ∷ bytes) → escaped_byte (get_or bytes 0 0) ≡ None → high ≡ unit_from bytes 1 → is_high_surrogate high ≡ true → 11 ≤ length bytes
pair_long bytes high r n e k = let h = raw_unit bytes r n in (h.pair (high_unit bytes high h e k).1).long

pub two_units : (bytes : List ℕ) (high low : ℕ) → IsRaw (92 ∷ bytes) → escaped_byte (get_or bytes 0 0) ≡ None → high ≡ unit_from bytes 1 → is_high_surrogate high ≡ true
    → low ≡ unit_from bytes 7 → IsTwoUnits bytes high low
two_units bytes high low r n e k f =
    let h = raw_unit bytes r n in
    let s = high_unit bytes high h e k in
    let l = h.pair s.1 in
    let same : l.low ≡ low = sym (digits_of_low bytes l.low l.long l.is_unit) ∙ sym f in
    let is = pair_escape_is bytes h l n s.1 in
    let both_same : pair_of h.unit l.low ≡ pair_of high low = ap (λ u. pair_of u l.low) s.0 ∙ ap (pair_of high) same in
    record {
      is_low = subst (λ u. is_low_surrogate u ≡ true) same l.is_low;
      is_scalar = subst IsScalar both_same (pair_is_scalar bytes h l s.1);
      stands_for = ap encode_utf8 (sym both_same) ∙ sym (ap (λ (x : Escape). x.stands_for) is);
      follow = sym (ap (λ (x : Escape). x.follow) is);
    }
