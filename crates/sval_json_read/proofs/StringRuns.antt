-- How the machine runs over strings.
use Rattle.std.specs.Prelude.{◌≡◌, ℕ, ◌+◌, ◌*◌, ◌<◌, ◌≤◌, Bool, true, false, cond, ◌&&◌, ◌==◌, nat_lt, nat_le, if◌then◌else◌, List, [], ◌∷◌, ◌++◌, Option, Some, None, option_and_then, refl}
use Rattle.std.specs.Char.{digit_value}
use Rattle.std.proofs.Common.{sym, ap, subst, ◌∙◌, arith, append_assoc, append-nil, inl, inr}
use Rattle.std.proofs.lemmas.Bool.{cases_lt}
use Rattle.std.proofs.lemmas.Bool.Decides.{nat_tests}
use Rattle.sval_json.specs.Grammar.{is_unescaped, escaped_byte, code_unit, is_high_surrogate, is_low_surrogate, is_surrogate, IsString, close, unescaped, escape, unit, pair}
use Rattle.sval_json_read.specs.Tokens.{Placed, between_quotes}
use Rattle.sval_json_read.specs.Strings.{Within, Plain, High, is_hex, is_d, next_within, closes_string}
use Rattle.sval_json_read.specs.Reader.{Opened, InString, ReaderState, string_ends}
use Rattle.sval_json_read.proofs.Runs.{at_state, read_from}
use Rattle.sval_json_read.proofs.StringSteps.{below}

-- one byte that isn't the closing quote, and some
abbrev pub takes : Within → ℕ → Option Within
takes within byte = if closes_string within byte then None else next_within within byte

abbrev pub walks : Within → List ℕ → Option Within
walks within [] = Some within
walks within (byte ∷ bytes) = option_and_then (λ next. walks next bytes) (takes within byte)

module _ (is_key : Bool) (opened : List Opened) (tokens : List Placed) where
  abbrev inside : Within → List ℕ → ReaderState
  inside within read = at_state (InString is_key within read) opened tokens

  walk_step : (within : Within) (read : List ℕ) (byte : ℕ) (bytes : List ℕ) (o : Option Within) → takes within byte ≡ o
      → (next : Within) → o ≡ Some next → read_from (inside within read) (byte ∷ bytes) ≡ read_from (inside next (read ++ (byte ∷ []))) bytes
  walk_step within read byte bytes o e next k = go (closes_string within byte) refl (e ∙ k)
    where
      go : (c : Bool) → closes_string within byte ≡ c → cond c None (next_within within byte) ≡ Some next
          → read_from (inside within read) (byte ∷ bytes) ≡ read_from (inside next (read ++ (byte ∷ []))) bytes
      go true c k = cc k
      go false c k = rw (c, k) refl

  walk : (part : List ℕ) (within last : Within) (read bytes : List ℕ) → walks within part ≡ Some last
      → read_from (inside within read) (part ++ bytes) ≡ read_from (inside last (read ++ part)) bytes
  walk [] within last read bytes e =
      let same : within ≡ last = cc e in
      ap (λ w. read_from (inside w read) bytes) same ∙ ap (λ x. read_from (inside last x) bytes) (sym (append-nil read))
  walk (byte ∷ part) within last read bytes e = go (takes within byte) refl e (λ next. walk part next last (read ++ (byte ∷ [])) bytes)
    where
      go : (o : Option Within) → takes within byte ≡ o → option_and_then (λ next. walks next part) o ≡ Some last
          → ((next : Within) → walks next part ≡ Some last → read_from (inside next (read ++ (byte ∷ []))) (part ++ bytes) ≡ read_from (inside last ((read ++ (byte ∷ [])) ++ part)) bytes)
          → read_from (inside within read) (byte ∷ (part ++ bytes)) ≡ read_from (inside last (read ++ (byte ∷ part))) bytes
      go None k e f = cc e
      go (Some next) k e f =
          walk_step within read byte (part ++ bytes) (Some next) k next refl ∙ f next e ∙ ap (λ x. read_from (inside last x) bytes) (append_assoc read (byte ∷ []) part)

-- ---- escapes

plain_walk : (byte : ℕ) → is_unescaped byte ≡ true → walks Plain (byte ∷ []) ≡ Some Plain
plain_walk byte h = let q : (byte == 34) ≡ false = grind (arith, nat_tests) in rw (h, q) refl

letter_no_unit : (letter byte : ℕ) → escaped_byte letter ≡ Some byte → (letter == 117) ≡ false
letter_no_unit letter byte e = go (letter == 117) refl
  where
    go : (b : Bool) → (letter == 117) ≡ b → b ≡ false
    go false h = refl
    go true h = let same : letter ≡ 117 = grind (arith, nat_tests) in let f : escaped_byte 117 ≡ Some byte = subst (λ x. escaped_byte x ≡ Some byte) same e in cc f

letter_walk : (letter byte : ℕ) → escaped_byte letter ≡ Some byte → walks Plain (92 ∷ letter ∷ []) ≡ Some Plain
letter_walk letter byte e = rw (letter_no_unit letter byte e, e) refl

-- a unit's digits and its value
record IsUnit (a b c d u : ℕ) : Type 0 where
  first : is_hex a ≡ true
  second : is_hex b ≡ true
  third : is_hex c ≡ true
  fourth : is_hex d ≡ true
  value : digit_value a * 4096 + digit_value b * 256 + digit_value c * 16 + digit_value d ≡ u

is_unit : (a b c d u : ℕ) → code_unit a b c d ≡ Some u → IsUnit a b c d u
is_unit a b c d u e = go (is_hex a) (is_hex b) (is_hex c) (is_hex d) refl refl refl refl e
  where
    go : (w x y z : Bool) → is_hex a ≡ w → is_hex b ≡ x → is_hex c ≡ y → is_hex d ≡ z
        → cond (w && x && y && z) (Some (digit_value a * 4096 + digit_value b * 256 + digit_value c * 16 + digit_value d)) None ≡ Some u → IsUnit a b c d u
    go true true true true p q r s e = record { first = p; second = q; third = r; fourth = s; value = cc e }
    go true true true false p q r s e = cc e
    go true true false z p q r s e = cc e
    go true false y z p q r s e = cc e
    go false x y z p q r s e = cc e

pub unit_value : (a b c d u : ℕ) → code_unit a b c d ≡ Some u → digit_value a * 4096 + digit_value b * 256 + digit_value c * 16 + digit_value d ≡ u
unit_value a b c d u e = (is_unit a b c d u e).value

surrogate_value : (v w x y u : ℕ) → v ≡ 13 → 8 ≤ w → w < 16 → x < 16 → y < 16 → v * 4096 + w * 256 + x * 16 + y ≡ u → is_surrogate u ≡ true
surrogate_value v w x y u p q r s t e = grind (arith, nat_tests)

high_digits : (v w x y u : ℕ) → v < 16 → w < 16 → x < 16 → y < 16 → v * 4096 + w * 256 + x * 16 + y ≡ u → is_high_surrogate u ≡ true → (v ≡ 13) × (8 ≤ w) × (w < 12)
high_digits v w x y u p q r s e h =
    let low : 0xd800 ≤ u = grind (arith, nat_tests) in
    let top : u ≤ 0xdbff = grind (arith, nat_tests) in
    (omega arith, omega arith, omega arith)

low_digits : (v w x y u : ℕ) → v < 16 → w < 16 → x < 16 → y < 16 → v * 4096 + w * 256 + x * 16 + y ≡ u → is_low_surrogate u ≡ true → (v ≡ 13) × (12 ≤ w)
low_digits v w x y u p q r s e h =
    let low : 0xdc00 ≤ u = grind (arith, nat_tests) in
    let top : u ≤ 0xdfff = grind (arith, nat_tests) in
    (omega arith, omega arith)

thirteen : (v : ℕ) → v ≡ 13 → (v == 13) ≡ true
thirteen v e = grind (arith, nat_tests)

is_thirteen : (v : ℕ) → (v == 13) ≡ true → v ≡ 13
is_thirteen v e = grind (arith, nat_tests)

less : (v n : ℕ) → v < n → nat_lt v n ≡ true
less v n h = grind (arith, nat_tests)

not_less : (v n : ℕ) → n ≤ v → nat_lt v n ≡ false
not_less v n h = grind (arith, nat_tests)

at_most : (v n : ℕ) → n ≤ v → nat_le n v ≡ true
at_most v n h = grind (arith, nat_tests)

unit_walk : (a b c d u : ℕ) → code_unit a b c d ≡ Some u → is_surrogate u ≡ false → walks Plain (92 ∷ 117 ∷ a ∷ b ∷ c ∷ d ∷ []) ≡ Some Plain
unit_walk a b c d u e s = go (is_d a) (nat_lt (digit_value b) 8) refl refl
  where
    h : IsUnit a b c d u
    h = is_unit a b c d u e

    go : (x y : Bool) → is_d a ≡ x → nat_lt (digit_value b) 8 ≡ y → walks Plain (92 ∷ 117 ∷ a ∷ b ∷ c ∷ d ∷ []) ≡ Some Plain
    go true true p q = rw (p, q, h.third, h.fourth) refl
    go true false p q =
        let w : 8 ≤ digit_value b = elim (cases_lt (digit_value b) 8) [ inl l ↦ let t = less (digit_value b) 8 l in absurd (cc) | inr l ↦ l ] in
        let t = surrogate_value (digit_value a) (digit_value b) (digit_value c) (digit_value d) u (is_thirteen (digit_value a) p) w (below _ 16 h.second) (below _ 16 h.third) (below _ 16 h.fourth) h.value in absurd (cc)
    go false y p q = rw (p, h.first, h.second, h.third, h.fourth) refl

high_walk : (a b c d u : ℕ) → code_unit a b c d ≡ Some u → is_high_surrogate u ≡ true → walks Plain (92 ∷ 117 ∷ a ∷ b ∷ c ∷ d ∷ []) ≡ Some High
high_walk a b c d u e s =
    let h = is_unit a b c d u e in
    let k = high_digits (digit_value a) (digit_value b) (digit_value c) (digit_value d) u (below _ 16 h.first) (below _ 16 h.second) (below _ 16 h.third) (below _ 16 h.fourth) h.value s in
    rw (thirteen (digit_value a) k.0, not_less (digit_value b) 8 k.1, less (digit_value b) 12 k.2, h.third, h.fourth) refl

low_walk : (a b c d u : ℕ) → code_unit a b c d ≡ Some u → is_low_surrogate u ≡ true → walks High (92 ∷ 117 ∷ a ∷ b ∷ c ∷ d ∷ []) ≡ Some Plain
low_walk a b c d u e s =
    let h = is_unit a b c d u e in
    let k = low_digits (digit_value a) (digit_value b) (digit_value c) (digit_value d) u (below _ 16 h.first) (below _ 16 h.second) (below _ 16 h.third) (below _ 16 h.fourth) h.value s in
    rw (thirteen (digit_value a) k.0, at_most (digit_value b) 12 k.1, h.second, h.third, h.fourth) refl

-- ---- a whole string

module _ (is_key : Bool) (opened : List Opened) (tokens : List Placed) where
  abbrev in_string : List ℕ → ReaderState
  in_string read = at_state (InString is_key Plain read) opened tokens

  abbrev ended : List ℕ → ReaderState
  ended read = string_ends (at_state (InString is_key Plain read) opened tokens) is_key read

  pub string-run : {bytes text rest : List ℕ} (read : List ℕ) (s : IsString bytes text rest) → read_from (in_string read) bytes ≡ read_from (ended (read ++ between_quotes s)) rest
  string-run read (close {rest = rest}) = ap (λ x. read_from (ended x) rest) (sym (append-nil read))
  string-run read (unescaped {byte = byte} {bytes = bytes} {rest = rest} h s) =
      walk is_key opened tokens (byte ∷ []) Plain Plain read bytes (plain_walk byte h) ∙ string-run (read ++ (byte ∷ [])) s
      ∙ ap (λ x. read_from (ended x) rest) (append_assoc read (byte ∷ []) (between_quotes s))
  string-run read (escape {letter = letter} {byte = byte} {bytes = bytes} {rest = rest} e s) =
      walk is_key opened tokens (92 ∷ letter ∷ []) Plain Plain read bytes (letter_walk letter byte e) ∙ string-run (read ++ (92 ∷ letter ∷ [])) s
      ∙ ap (λ x. read_from (ended x) rest) (append_assoc read (92 ∷ letter ∷ []) (between_quotes s))
  string-run read (unit {a = a} {b = b} {c = c} {d = d} {u = u} {bytes = bytes} {rest = rest} e f s) =
      walk is_key opened tokens (92 ∷ 117 ∷ a ∷ b ∷ c ∷ d ∷ []) Plain Plain read bytes (unit_walk a b c d u e f) ∙ string-run (read ++ (92 ∷ 117 ∷ a ∷ b ∷ c ∷ d ∷ [])) s
      ∙ ap (λ x. read_from (ended x) rest) (append_assoc read (92 ∷ 117 ∷ a ∷ b ∷ c ∷ d ∷ []) (between_quotes s))
  string-run read (pair {a = a} {b = b} {c = c} {d = d} {e = e} {f = f} {g = g} {h = h} {high = high} {low = low} {bytes = bytes} {rest = rest} p q r t s) =
      walk is_key opened tokens (92 ∷ 117 ∷ a ∷ b ∷ c ∷ d ∷ []) Plain High read (92 ∷ 117 ∷ e ∷ f ∷ g ∷ h ∷ bytes) (high_walk a b c d high p q)
      ∙ walk is_key opened tokens (92 ∷ 117 ∷ e ∷ f ∷ g ∷ h ∷ []) High Plain (read ++ (92 ∷ 117 ∷ a ∷ b ∷ c ∷ d ∷ [])) bytes (low_walk e f g h low r t)
      ∙ string-run ((read ++ (92 ∷ 117 ∷ a ∷ b ∷ c ∷ d ∷ [])) ++ (92 ∷ 117 ∷ e ∷ f ∷ g ∷ h ∷ [])) s
      ∙ ap (λ x. read_from (ended x) rest) (append_assoc (read ++ (92 ∷ 117 ∷ a ∷ b ∷ c ∷ d ∷ [])) (92 ∷ 117 ∷ e ∷ f ∷ g ∷ h ∷ []) (between_quotes s)
      ∙ append_assoc read (92 ∷ 117 ∷ a ∷ b ∷ c ∷ d ∷ []) (92 ∷ 117 ∷ e ∷ f ∷ g ∷ h ∷ between_quotes s))
