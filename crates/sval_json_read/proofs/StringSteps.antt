-- From each state the machine of strings takes only what completes a string.
use Rattle.std.specs.Prelude.{◌≡◌, ℕ, ◌+◌, ◌*◌, ◌<◌, ◌≤◌, ◌⊎◌, Bool, true, false, cond, ◌&&◌, ◌==◌, nat_lt, nat_le, is_some, List, [], ◌∷◌, ◌++◌, Option, Some, None, refl}
use Rattle.std.specs.Char.{is_digit, digit_value}
use Rattle.std.proofs.Common.{sym, subst, arith, inl, inr}
use Rattle.std.proofs.lemmas.Bool.{and_parts}
use Rattle.std.proofs.lemmas.Bool.Decides.{nat_tests}
use Rattle.sval_json.specs.Grammar.{is_unescaped, escaped_byte, code_unit, is_high_surrogate, is_low_surrogate, is_surrogate, IsString, close, unescaped, escape, unit, pair}
use Rattle.sval_json_read.specs.Strings.{Within, Plain, Backslash, Unit, UnitD, ThreeLeft, TwoLeft, OneLeft, HighTwoLeft, HighOneLeft, High, LowBackslash, LowUnit, LowD, LowTwoLeft, LowOneLeft, within_when, is_hex, is_d, next_within, closes_string}

-- the values of two hex digits with which a unit begins: of no surrogate, of a high one, of a low one
abbrev pub AreOrdinary : ℕ → ℕ → Type 0
AreOrdinary v w = (v < 16) × (w < 16) × ((v * 16 + w < 216) ⊎ (224 ≤ v * 16 + w))

abbrev pub AreHigh : ℕ → ℕ → Type 0
AreHigh v w = (v ≡ 13) × (8 ≤ w) × (w < 12)

abbrev pub AreLow : ℕ → ℕ → Type 0
AreLow v w = (v ≡ 13) × (12 ≤ w) × (w < 16)

-- a high surrogate's escape
pub record IsHighUnit (a b c d : ℕ) : Type 0 where
  pub high : ℕ
  pub is_unit : code_unit a b c d ≡ Some high
  pub is_high : is_high_surrogate high ≡ true

-- Begun within part: the machine is in this state where it has read this part of an escape
pub data Begun : Within → List ℕ → Type 0 where
  plain : Begun Plain []
  backslash : Begun Backslash (92 ∷ [])
  unit_begun : Begun Unit (92 ∷ 117 ∷ [])
  unit_d : {a : ℕ} → digit_value a ≡ 13 → Begun UnitD (92 ∷ 117 ∷ a ∷ [])
  three_left : {a : ℕ} → digit_value a < 16 → (digit_value a ≡ 13 → ⊥) → Begun ThreeLeft (92 ∷ 117 ∷ a ∷ [])
  two_left : {a b : ℕ} → AreOrdinary (digit_value a) (digit_value b) → Begun TwoLeft (92 ∷ 117 ∷ a ∷ b ∷ [])
  one_left : {a b c : ℕ} → AreOrdinary (digit_value a) (digit_value b) → digit_value c < 16 → Begun OneLeft (92 ∷ 117 ∷ a ∷ b ∷ c ∷ [])
  high_two_left : {a b : ℕ} → AreHigh (digit_value a) (digit_value b) → Begun HighTwoLeft (92 ∷ 117 ∷ a ∷ b ∷ [])
  high_one_left : {a b c : ℕ} → AreHigh (digit_value a) (digit_value b) → digit_value c < 16 → Begun HighOneLeft (92 ∷ 117 ∷ a ∷ b ∷ c ∷ [])
  high : {a b c d : ℕ} → IsHighUnit a b c d → Begun High (92 ∷ 117 ∷ a ∷ b ∷ c ∷ d ∷ [])
  low_backslash : {a b c d : ℕ} → IsHighUnit a b c d → Begun LowBackslash (92 ∷ 117 ∷ a ∷ b ∷ c ∷ d ∷ 92 ∷ [])
  low_unit : {a b c d : ℕ} → IsHighUnit a b c d → Begun LowUnit (92 ∷ 117 ∷ a ∷ b ∷ c ∷ d ∷ 92 ∷ 117 ∷ [])
  low_d : {a b c d e : ℕ} → IsHighUnit a b c d → digit_value e ≡ 13 → Begun LowD (92 ∷ 117 ∷ a ∷ b ∷ c ∷ d ∷ 92 ∷ 117 ∷ e ∷ [])
  low_two_left : {a b c d e f : ℕ} → IsHighUnit a b c d → AreLow (digit_value e) (digit_value f)
      → Begun LowTwoLeft (92 ∷ 117 ∷ a ∷ b ∷ c ∷ d ∷ 92 ∷ 117 ∷ e ∷ f ∷ [])
  low_one_left : {a b c d e f g : ℕ} → IsHighUnit a b c d → AreLow (digit_value e) (digit_value f) → digit_value g < 16
      → Begun LowOneLeft (92 ∷ 117 ∷ a ∷ b ∷ c ∷ d ∷ 92 ∷ 117 ∷ e ∷ f ∷ g ∷ [])

-- the bytes, after what of an escape was read, are the rest of a string, its closing quote, and then the rest
abbrev pub Completes : Within → List ℕ → List ℕ → Type 0
Completes within bytes rest = (part : List ℕ) → Begun within part → (text : List ℕ) × IsString (part ++ bytes) text rest

abbrev pub CompletesAfter : Option Within → List ℕ → List ℕ → Type 0
CompletesAfter None bytes rest = ⊥
CompletesAfter (Some within) bytes rest = Completes within bytes rest

-- ---- what the tests tell

pub below : (v n : ℕ) → nat_lt v n ≡ true → v < n
below v n h = grind (arith, nat_tests)

above : (v n : ℕ) → nat_lt v n ≡ false → n ≤ v
above v n h = grind (arith, nat_tests)

at_least : (v n : ℕ) → nat_le n v ≡ true → n ≤ v
at_least v n h = grind (arith, nat_tests)

same : (v n : ℕ) → (v == n) ≡ true → v ≡ n
same v n h = grind (arith, nat_tests)

other : (v n : ℕ) → (v == n) ≡ false → v ≡ n → ⊥
other v n h e = grind (arith, nat_tests)

hex_test : (v : ℕ) → v < 16 → nat_lt v 16 ≡ true
hex_test v h = grind (arith, nat_tests)

-- ---- units

unit_of_hex : (a b c d : ℕ) → digit_value a < 16 → digit_value b < 16 → digit_value c < 16 → digit_value d < 16
    → code_unit a b c d ≡ Some (digit_value a * 4096 + digit_value b * 256 + digit_value c * 16 + digit_value d)
unit_of_hex a b c d p q r s = by (is_digit a 16) (is_digit b 16) (is_digit c 16) (is_digit d 16) (hex_test _ p) (hex_test _ q) (hex_test _ r) (hex_test _ s)
  where
    by : (w x y z : Bool) → w ≡ true → x ≡ true → y ≡ true → z ≡ true
        → cond (w && x && y && z) (Some (digit_value a * 4096 + digit_value b * 256 + digit_value c * 16 + digit_value d)) None ≡ Some (digit_value a * 4096 + digit_value b * 256 + digit_value c * 16 + digit_value d)
    by w x y z e f g h = rw (e, f, g, h) refl

ordinary_unit : (v w x y : ℕ) → AreOrdinary v w → x < 16 → y < 16 → is_surrogate (v * 4096 + w * 256 + x * 16 + y) ≡ false
ordinary_unit v w x y (p, q, inl l) k m = grind (arith, nat_tests)
ordinary_unit v w x y (p, q, inr l) k m = grind (arith, nat_tests)

high_value : (v w x y : ℕ) → AreHigh v w → x < 16 → y < 16 → is_high_surrogate (v * 4096 + w * 256 + x * 16 + y) ≡ true
high_value v w x y (p, q, l) k m = grind (arith, nat_tests)

low_value : (v w x y : ℕ) → AreLow v w → x < 16 → y < 16 → is_low_surrogate (v * 4096 + w * 256 + x * 16 + y) ≡ true
low_value v w x y (p, q, l) k m = grind (arith, nat_tests)

pub is_high_unit : (a b c d : ℕ) → AreHigh (digit_value a) (digit_value b) → digit_value c < 16 → digit_value d < 16 → IsHighUnit a b c d
is_high_unit a b c d h k m = record {
  high = digit_value a * 4096 + digit_value b * 256 + digit_value c * 16 + digit_value d;
  is_unit = unit_of_hex a b c d (omega (arith, h.0)) (omega (arith, h.2)) k m;
  is_high = high_value (digit_value a) (digit_value b) (digit_value c) (digit_value d) h k m;
}

not_d : (v w : ℕ) → v < 16 → (v ≡ 13 → ⊥) → w < 16 → AreOrdinary v w
not_d v w p n q = let o : (v * 16 + w < 216) ⊎ (224 ≤ v * 16 + w) = grind arith in (p, q, o)

low_d_values : (v w : ℕ) → v ≡ 13 → w < 8 → AreOrdinary v w
low_d_values v w p q = let o : (v * 16 + w < 216) ⊎ (224 ≤ v * 16 + w) = inl (omega arith) in (omega arith, omega arith, o)

-- ---- one byte

on_or : {bytes rest : List ℕ} (test : Bool) (within : Within) (others : Option Within) → CompletesAfter (cond test (Some within) others) bytes rest
    → ((test ≡ true) × Completes within bytes rest) ⊎ ((test ≡ false) × CompletesAfter others bytes rest)
on_or true within others r = inl (refl, r)
on_or false within others r = inr (refl, r)

on_when : {bytes rest : List ℕ} (test : Bool) (within : Within) → CompletesAfter (within_when test within) bytes rest → (test ≡ true) × Completes within bytes rest
on_when true within r = (refl, r)
on_when false within r = absurd r

abbrev Text : List ℕ → List ℕ → Type 0
Text bytes rest = (text : List ℕ) × IsString bytes text rest

plain_unescaped : (byte : ℕ) {bytes rest : List ℕ} → is_unescaped byte ≡ true → Completes Plain bytes rest → Completes Plain (byte ∷ bytes) rest
plain_unescaped byte h r part plain = let s = r [] plain in (byte ∷ s.0, unescaped h s.1)

plain_backslash : {byte : ℕ} {bytes rest : List ℕ} → byte ≡ 92 → Completes Backslash bytes rest → Completes Plain (byte ∷ bytes) rest
plain_backslash {bytes = bytes} {rest = rest} e r part plain = subst (λ b. Text (b ∷ bytes) rest) (sym e) (r (92 ∷ []) backslash)

backslash_unit : {byte : ℕ} {bytes rest : List ℕ} → byte ≡ 117 → Completes Unit bytes rest → Completes Backslash (byte ∷ bytes) rest
backslash_unit {bytes = bytes} {rest = rest} e r part backslash = subst (λ b. Text (92 ∷ b ∷ bytes) rest) (sym e) (r (92 ∷ 117 ∷ []) unit_begun)

backslash_letter : (byte : ℕ) {bytes rest : List ℕ} (o : Option ℕ) → escaped_byte byte ≡ o → is_some o ≡ true → Completes Plain bytes rest → Completes Backslash (byte ∷ bytes) rest
backslash_letter byte (Some b) e h r part backslash = let s = r [] plain in (b ∷ s.0, escape e s.1)
backslash_letter byte None e h r part backslash = cc h

unit_to_d : (byte : ℕ) {bytes rest : List ℕ} → digit_value byte ≡ 13 → Completes UnitD bytes rest → Completes Unit (byte ∷ bytes) rest
unit_to_d byte h r part unit_begun = r (92 ∷ 117 ∷ byte ∷ []) (unit_d h)

unit_to_three : (byte : ℕ) {bytes rest : List ℕ} → digit_value byte < 16 → (digit_value byte ≡ 13 → ⊥) → Completes ThreeLeft bytes rest → Completes Unit (byte ∷ bytes) rest
unit_to_three byte h n r part unit_begun = r (92 ∷ 117 ∷ byte ∷ []) (three_left h n)

d_to_two : (byte : ℕ) {bytes rest : List ℕ} → digit_value byte < 8 → Completes TwoLeft bytes rest → Completes UnitD (byte ∷ bytes) rest
d_to_two byte h r part (unit_d {a = a} e) = r (92 ∷ 117 ∷ a ∷ byte ∷ []) (two_left (low_d_values (digit_value a) (digit_value byte) e h))

d_to_high : (byte : ℕ) {bytes rest : List ℕ} → 8 ≤ digit_value byte → digit_value byte < 12 → Completes HighTwoLeft bytes rest → Completes UnitD (byte ∷ bytes) rest
d_to_high byte h k r part (unit_d {a = a} e) = r (92 ∷ 117 ∷ a ∷ byte ∷ []) (high_two_left (e, h, k))

three_to_two : (byte : ℕ) {bytes rest : List ℕ} → digit_value byte < 16 → Completes TwoLeft bytes rest → Completes ThreeLeft (byte ∷ bytes) rest
three_to_two byte h r part (three_left {a = a} l n) = r (92 ∷ 117 ∷ a ∷ byte ∷ []) (two_left (not_d (digit_value a) (digit_value byte) l n h))

two_to_one : (byte : ℕ) {bytes rest : List ℕ} → digit_value byte < 16 → Completes OneLeft bytes rest → Completes TwoLeft (byte ∷ bytes) rest
two_to_one byte h r part (two_left {a = a} {b = b} o) = r (92 ∷ 117 ∷ a ∷ b ∷ byte ∷ []) (one_left o h)

one_to_plain : (byte : ℕ) {bytes rest : List ℕ} → digit_value byte < 16 → Completes Plain bytes rest → Completes OneLeft (byte ∷ bytes) rest
one_to_plain byte h r part (one_left {a = a} {b = b} {c = c} o k) =
    let s = r [] plain in
    (_, unit (unit_of_hex a b c byte o.0 o.1 k h) (ordinary_unit (digit_value a) (digit_value b) (digit_value c) (digit_value byte) o k h) s.1)

high_two_to_one : (byte : ℕ) {bytes rest : List ℕ} → digit_value byte < 16 → Completes HighOneLeft bytes rest → Completes HighTwoLeft (byte ∷ bytes) rest
high_two_to_one byte h r part (high_two_left {a = a} {b = b} o) = r (92 ∷ 117 ∷ a ∷ b ∷ byte ∷ []) (high_one_left o h)

high_one_to_high : (byte : ℕ) {bytes rest : List ℕ} → digit_value byte < 16 → Completes High bytes rest → Completes HighOneLeft (byte ∷ bytes) rest
high_one_to_high byte h r part (high_one_left {a = a} {b = b} {c = c} o k) = r (92 ∷ 117 ∷ a ∷ b ∷ c ∷ byte ∷ []) (high (is_high_unit a b c byte o k h))

high_to_backslash : {byte : ℕ} {bytes rest : List ℕ} → byte ≡ 92 → Completes LowBackslash bytes rest → Completes High (byte ∷ bytes) rest
high_to_backslash {bytes = bytes} {rest = rest} e r part (high {a = a} {b = b} {c = c} {d = d} u) =
    subst (λ x. Text (92 ∷ 117 ∷ a ∷ b ∷ c ∷ d ∷ x ∷ bytes) rest) (sym e) (r (92 ∷ 117 ∷ a ∷ b ∷ c ∷ d ∷ 92 ∷ []) (low_backslash u))

low_to_unit : {byte : ℕ} {bytes rest : List ℕ} → byte ≡ 117 → Completes LowUnit bytes rest → Completes LowBackslash (byte ∷ bytes) rest
low_to_unit {bytes = bytes} {rest = rest} e r part (low_backslash {a = a} {b = b} {c = c} {d = d} u) =
    subst (λ x. Text (92 ∷ 117 ∷ a ∷ b ∷ c ∷ d ∷ 92 ∷ x ∷ bytes) rest) (sym e) (r (92 ∷ 117 ∷ a ∷ b ∷ c ∷ d ∷ 92 ∷ 117 ∷ []) (low_unit u))

low_to_d : (byte : ℕ) {bytes rest : List ℕ} → digit_value byte ≡ 13 → Completes LowD bytes rest → Completes LowUnit (byte ∷ bytes) rest
low_to_d byte h r part (low_unit {a = a} {b = b} {c = c} {d = d} u) = r (92 ∷ 117 ∷ a ∷ b ∷ c ∷ d ∷ 92 ∷ 117 ∷ byte ∷ []) (low_d u h)

low_d_to_two : (byte : ℕ) {bytes rest : List ℕ} → 12 ≤ digit_value byte → digit_value byte < 16 → Completes LowTwoLeft bytes rest → Completes LowD (byte ∷ bytes) rest
low_d_to_two byte h k r part (low_d {a = a} {b = b} {c = c} {d = d} {e = e} u l) = r (92 ∷ 117 ∷ a ∷ b ∷ c ∷ d ∷ 92 ∷ 117 ∷ e ∷ byte ∷ []) (low_two_left u (l, h, k))

low_two_to_one : (byte : ℕ) {bytes rest : List ℕ} → digit_value byte < 16 → Completes LowOneLeft bytes rest → Completes LowTwoLeft (byte ∷ bytes) rest
low_two_to_one byte h r part (low_two_left {a = a} {b = b} {c = c} {d = d} {e = e} {f = f} u l) = r (92 ∷ 117 ∷ a ∷ b ∷ c ∷ d ∷ 92 ∷ 117 ∷ e ∷ f ∷ byte ∷ []) (low_one_left u l h)

low_one_to_plain : (byte : ℕ) {bytes rest : List ℕ} → digit_value byte < 16 → Completes Plain bytes rest → Completes LowOneLeft (byte ∷ bytes) rest
low_one_to_plain byte h r part (low_one_left {e = e} {f = f} {g = g} u l k) =
    let s = r [] plain in
    (_, pair u.is_unit u.is_high (unit_of_hex e f g byte (omega (arith, l.0)) l.2 k h) (low_value (digit_value e) (digit_value f) (digit_value g) (digit_value byte) l k h) s.1)

pub is_hex_below : (byte : ℕ) → is_hex byte ≡ true → digit_value byte < 16
is_hex_below byte h = below (digit_value byte) 16 h

pub string-step : (within : Within) (byte : ℕ) (bytes rest : List ℕ) → CompletesAfter (next_within within byte) bytes rest → Completes within (byte ∷ bytes) rest
string-step Plain byte bytes rest r = elim (on_or (is_unescaped byte) Plain (within_when (byte == 92) Backslash) r) [
  | inl y ↦ plain_unescaped byte y.0 y.1
  | inr n ↦ let w = on_when (byte == 92) Backslash n.1 in plain_backslash (same byte 92 w.0) w.1
]
string-step Backslash byte bytes rest r = elim (on_or (byte == 117) Unit (within_when (is_some (escaped_byte byte)) Plain) r) [
  | inl y ↦ backslash_unit (same byte 117 y.0) y.1
  | inr n ↦ let w = on_when (is_some (escaped_byte byte)) Plain n.1 in backslash_letter byte (escaped_byte byte) refl w.0 w.1
]
string-step Unit byte bytes rest r = elim (on_or (is_d byte) UnitD (within_when (is_hex byte) ThreeLeft) r) [
  | inl y ↦ unit_to_d byte (same (digit_value byte) 13 y.0) y.1
  | inr n ↦ let w = on_when (is_hex byte) ThreeLeft n.1 in unit_to_three byte (is_hex_below byte w.0) (other (digit_value byte) 13 n.0) w.1
]
string-step UnitD byte bytes rest r = elim (on_or (nat_lt (digit_value byte) 8) TwoLeft (within_when (nat_lt (digit_value byte) 12) HighTwoLeft) r) [
  | inl y ↦ d_to_two byte (below (digit_value byte) 8 y.0) y.1
  | inr n ↦ let w = on_when (nat_lt (digit_value byte) 12) HighTwoLeft n.1 in d_to_high byte (above (digit_value byte) 8 n.0) (below (digit_value byte) 12 w.0) w.1
]
string-step ThreeLeft byte bytes rest r = let w = on_when (is_hex byte) TwoLeft r in three_to_two byte (is_hex_below byte w.0) w.1
string-step TwoLeft byte bytes rest r = let w = on_when (is_hex byte) OneLeft r in two_to_one byte (is_hex_below byte w.0) w.1
string-step OneLeft byte bytes rest r = let w = on_when (is_hex byte) Plain r in one_to_plain byte (is_hex_below byte w.0) w.1
string-step HighTwoLeft byte bytes rest r = let w = on_when (is_hex byte) HighOneLeft r in high_two_to_one byte (is_hex_below byte w.0) w.1
string-step HighOneLeft byte bytes rest r = let w = on_when (is_hex byte) High r in high_one_to_high byte (is_hex_below byte w.0) w.1
string-step High byte bytes rest r = let w = on_when (byte == 92) LowBackslash r in high_to_backslash (same byte 92 w.0) w.1
string-step LowBackslash byte bytes rest r = let w = on_when (byte == 117) LowUnit r in low_to_unit (same byte 117 w.0) w.1
string-step LowUnit byte bytes rest r = let w = on_when (is_d byte) LowD r in low_to_d byte (same (digit_value byte) 13 w.0) w.1
string-step LowD byte bytes rest r =
    let w = on_when (nat_le 12 (digit_value byte) && is_hex byte) LowTwoLeft r in
    let (l, h) = and_parts (nat_le 12 (digit_value byte)) (is_hex byte) w.0 in low_d_to_two byte (at_least (digit_value byte) 12 l) (is_hex_below byte h) w.1
string-step LowTwoLeft byte bytes rest r = let w = on_when (is_hex byte) LowOneLeft r in low_two_to_one byte (is_hex_below byte w.0) w.1
string-step LowOneLeft byte bytes rest r = let w = on_when (is_hex byte) Plain r in low_one_to_plain byte (is_hex_below byte w.0) w.1

plain_closes : {byte : ℕ} {bytes : List ℕ} → byte ≡ 34 → Completes Plain (byte ∷ bytes) bytes
plain_closes {bytes = bytes} e part plain = subst (λ b. Text (b ∷ bytes) bytes) (sym e) ([], close)

-- the closing quote
pub string-closes : {bytes : List ℕ} (within : Within) (byte : ℕ) → closes_string within byte ≡ true → Completes within (byte ∷ bytes) bytes
string-closes Plain byte h = plain_closes (same byte 34 h)
string-closes within byte h = cc h
