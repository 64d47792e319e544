-- Of bytes that are UTF-8 each text is UTF-8, and so is what follows a value.
use Rattle.std.specs.Prelude.{◌≡◌, ℕ, ◌+◌, ◌*◌, ◌<◌, Bool, true, false, cond, ◌&&◌, ◌||◌, ◌==◌, nat_lt, List, [], ◌∷◌, ◌++◌, length, get_or, Some, None, codes, refl, IsUtf8, ⊤}
use Rattle.std.specs.Char.{encode_utf8, digit_value, IsScalar}
use Rattle.std.proofs.Common.{sym, ap, subst, ◌∙◌, arith, append_assoc, append-nil, take_at, drop_at, length-append, inl, inr}
use Rattle.std.proofs.lemmas.Bool.{cases_lt}
use Rattle.std.proofs.lemmas.Bool.Decides.{nat_tests}
use Rattle.std.proofs.lemmas.Str.{IsUtf8-append, IsUtf8-take, IsUtf8-drop, IsUtf8-encode, IsUtf8-past_char, IsCharBoundary-before_ascii, IsCharBoundary-from_take, encode_ascii}
use Rattle.std.proofs.lemmas.List.{get_or-append-add}
use Rattle.sval_json.specs.Digits.{is_json_number}
use Rattle.sval_json.specs.Grammar as json
use Rattle.sval_json.specs.Grammar.{JsonValue, Values, no_values, a_value, Members, no_members, a_member, after_space, is_space, is_unescaped, escaped_byte, code_unit, is_high_surrogate, is_low_surrogate, is_surrogate, pair_of, IsString, close, unescaped, escape, unit, pair, IsValue, null, truth, falsehood, number, string, empty_array, array, empty_object, object, AreJsonValues, last_value, more_values, AreMembers, last_member, more_members, Denotes}
use Rattle.sval_json.proofs.NumberGrammar.{number_tested}
use Rattle.sval_json.proofs.NumberTexts.{ascii_utf8, number_utf8}
use Rattle.sval_json_read.specs.Strings.{is_hex}
use Rattle.sval_json_read.proofs.Boundaries.{no_value, no_escape}
use Rattle.sval_json_read.proofs.StringSteps.{is_hex_below}

-- ---- around ASCII

after_ascii : (byte : ℕ) (bytes : List ℕ) → byte < 128 → IsUtf8 (byte ∷ bytes) → IsUtf8 bytes
after_ascii byte bytes h u = IsUtf8-past_char (byte ∷ bytes) bytes byte u (ap (λ x. x ++ bytes) (sym (encode_ascii byte h)))

pub ascii-between : (xs : List ℕ) (byte : ℕ) (ys : List ℕ) → byte < 128 → IsUtf8 (xs ++ (byte ∷ ys)) → IsUtf8 xs × IsUtf8 ys
ascii-between xs byte ys h u =
    let at_byte : get_or (xs ++ (byte ∷ ys)) (length xs) 0 ≡ byte = ap (λ n. get_or (xs ++ (byte ∷ ys)) n 0) (let e : length xs ≡ length xs + 0 = omega arith in e) ∙ get_or-append-add xs (byte ∷ ys) 0 0 in
    let boundary = IsCharBoundary-before_ascii (xs ++ (byte ∷ ys)) (length xs) (omega (arith, length-append xs (byte ∷ ys))) (omega (arith, at_byte)) in
    let rest = subst IsUtf8 (drop_at xs (byte ∷ ys) (length xs) refl) (IsUtf8-drop (xs ++ (byte ∷ ys)) (length xs) u boundary) in
    (subst IsUtf8 (take_at xs (byte ∷ ys) (length xs) refl) (IsUtf8-take (xs ++ (byte ∷ ys)) (length xs) u boundary), after_ascii byte ys h rest)

pub low_byte : (byte : ℕ) → byte < 128 → IsUtf8 (byte ∷ [])
low_byte byte h = let e : nat_lt byte 128 ≡ true = grind (arith, nat_tests) in ascii_utf8 (byte ∷ []) (rw e refl)

-- ---- escapes

pub letter_low : (letter byte : ℕ) → escaped_byte letter ≡ Some byte → letter < 128
letter_low letter byte e = elim (cases_lt letter 128) [ inl low ↦ low | inr high ↦ let n = no_escape letter high in absurd (cc) ]

hex_low : (byte : ℕ) → is_hex byte ≡ true → byte < 128
hex_low byte h = elim (cases_lt byte 128) [
  | inl low ↦ low
  | inr high ↦ let e : nat_lt (digit_value byte) 16 ≡ false = ap (λ v. nat_lt v 16) (no_value byte high) in absurd (cc)
]

pub escaped_low : (letter byte : ℕ) → escaped_byte letter ≡ Some byte → byte < 128
escaped_low letter byte e = go ((letter == 34) || (letter == 92) || (letter == 47)) (letter == 98) (letter == 102) (letter == 110) (letter == 114) (letter == 116) e
  where
    low : letter < 128
    low = letter_low letter byte e

    go : (p q r s t u : Bool) → cond p (Some letter) (cond q (Some 8) (cond r (Some 12) (cond s (Some 10) (cond t (Some 13) (cond u (Some 9) None))))) ≡ Some byte → byte < 128
    go true q r s t u f = let g : letter ≡ byte = cc in omega (arith, g, low)
    go false true r s t u f = let g : 8 ≡ byte = cc in omega arith
    go false false true s t u f = let g : 12 ≡ byte = cc in omega arith
    go false false false true t u f = let g : 10 ≡ byte = cc in omega arith
    go false false false false true u f = let g : 13 ≡ byte = cc in omega arith
    go false false false false false true f = let g : 9 ≡ byte = cc in omega arith
    go false false false false false false f = absurd (cc f)

pub record AreHex (a b c d u : ℕ) : Type 0 where
  pub first : a < 128
  pub second : b < 128
  pub third : c < 128
  pub fourth : d < 128
  pub small : u < 65536

unit_value : (v w x y u : ℕ) → v < 16 → w < 16 → x < 16 → y < 16 → v * 4096 + w * 256 + x * 16 + y ≡ u → u < 65536
unit_value v w x y u p q r s e = omega arith

pub are_hex : (a b c d u : ℕ) → code_unit a b c d ≡ Some u → AreHex a b c d u
are_hex a b c d u e = go (is_hex a) (is_hex b) (is_hex c) (is_hex d) refl refl refl refl e
  where
    go : (w x y z : Bool) → is_hex a ≡ w → is_hex b ≡ x → is_hex c ≡ y → is_hex d ≡ z
        → cond (w && x && y && z) (Some (digit_value a * 4096 + digit_value b * 256 + digit_value c * 16 + digit_value d)) None ≡ Some u → AreHex a b c d u
    go true true true true p q r s e = record {
      first = hex_low a p;
      second = hex_low b q;
      third = hex_low c r;
      fourth = hex_low d s;
      small = unit_value (digit_value a) (digit_value b) (digit_value c) (digit_value d) u (is_hex_below a p) (is_hex_below b q) (is_hex_below c r) (is_hex_below d s) (cc e);
    }
    go true true true false p q r s e = cc e
    go true true false z p q r s e = cc e
    go true false y z p q r s e = cc e
    go false x y z p q r s e = cc e

pub unit_scalar : (u : ℕ) → u < 65536 → is_surrogate u ≡ false → IsScalar u
unit_scalar u h s = grind (arith, nat_tests)

pub pair_scalar : (high low : ℕ) → is_high_surrogate high ≡ true → is_low_surrogate low ≡ true → IsScalar (pair_of high low)
pair_scalar high low h l = grind (arith, nat_tests)

-- ---- strings

-- the bytes after a backslash's escape
after_low : (before : List ℕ) (byte : ℕ) (bytes : List ℕ) → byte < 128 → IsUtf8 (before ++ (byte ∷ bytes)) → IsUtf8 before × IsUtf8 bytes
after_low before byte bytes h u = ascii-between before byte bytes h u

after_unit : (a b c d u : ℕ) (bytes : List ℕ) → AreHex a b c d u → IsUtf8 (117 ∷ a ∷ b ∷ c ∷ d ∷ bytes) → IsUtf8 bytes
after_unit a b c d u bytes h k =
    after_ascii d bytes h.fourth (after_ascii c (d ∷ bytes) h.third (after_ascii b (c ∷ d ∷ bytes) h.second (after_ascii a (b ∷ c ∷ d ∷ bytes) h.first
    (after_ascii 117 (a ∷ b ∷ c ∷ d ∷ bytes) (omega arith) k))))

-- `before` are unescaped bytes, which may end amid a character
string_utf8 : {bytes text rest : List ℕ} (before : List ℕ) → IsString bytes text rest → IsUtf8 (before ++ bytes) → IsUtf8 (before ++ text) × IsUtf8 rest
string_utf8 before (close {rest = rest}) u = let p = ascii-between before 34 rest (omega arith) u in (subst IsUtf8 (sym (append-nil before)) p.0, p.1)
string_utf8 before (unescaped {byte = byte} {bytes = bytes} {text = text} h s) u =
    let i = string_utf8 (before ++ (byte ∷ [])) s (subst IsUtf8 (sym (append_assoc before (byte ∷ []) bytes)) u) in
    (subst IsUtf8 (append_assoc before (byte ∷ []) text) i.0, i.1)
string_utf8 before (escape {letter = letter} {byte = byte} {bytes = bytes} {text = text} e s) u =
    let p = ascii-between before 92 (letter ∷ bytes) (omega arith) u in
    let i = string_utf8 [] s (after_ascii letter bytes (letter_low letter byte e) p.1) in
    (IsUtf8-append before (byte ∷ text) p.0 (IsUtf8-append (byte ∷ []) text (low_byte byte (escaped_low letter byte e)) i.0), i.1)
string_utf8 before (unit {a = a} {b = b} {c = c} {d = d} {u = u} {bytes = bytes} {text = text} e f s) k =
    let h = are_hex a b c d u e in
    let p = ascii-between before 92 (117 ∷ a ∷ b ∷ c ∷ d ∷ bytes) (omega arith) k in
    let i = string_utf8 [] s (after_unit a b c d u bytes h p.1) in
    (IsUtf8-append before (encode_utf8 u ++ text) p.0 (IsUtf8-append (encode_utf8 u) text (IsUtf8-encode u (unit_scalar u h.small f)) i.0), i.1)
string_utf8 before (pair {a = a} {b = b} {c = c} {d = d} {e = e} {f = f} {g = g} {h = h} {high = high} {low = low} {bytes = bytes} {text = text} q r t l s) k =
    let p = ascii-between before 92 (117 ∷ a ∷ b ∷ c ∷ d ∷ 92 ∷ 117 ∷ e ∷ f ∷ g ∷ h ∷ bytes) (omega arith) k in
    let m = after_unit a b c d high (92 ∷ 117 ∷ e ∷ f ∷ g ∷ h ∷ bytes) (are_hex a b c d high q) p.1 in
    let n = after_ascii 92 (117 ∷ e ∷ f ∷ g ∷ h ∷ bytes) (omega arith) m in
    let i = string_utf8 [] s (after_unit e f g h low bytes (are_hex e f g h low t) n) in
    (IsUtf8-append before (encode_utf8 (pair_of high low) ++ text) p.0 (IsUtf8-append (encode_utf8 (pair_of high low)) text (IsUtf8-encode (pair_of high low) (pair_scalar high low r l)) i.0), i.1)

-- ---- values

space_low : (byte : ℕ) → is_space byte ≡ true → byte < 128
space_low byte h = grind (arith, nat_tests)

spaces_utf8 : (bytes : List ℕ) → IsUtf8 bytes → IsUtf8 (after_space bytes)
spaces_utf8 [] u = u
spaces_utf8 (byte ∷ bytes) u = go (is_space byte) refl (spaces_utf8 bytes)
  where
    go : (s : Bool) → is_space byte ≡ s → (IsUtf8 bytes → IsUtf8 (after_space bytes)) → IsUtf8 (cond s (after_space bytes) (byte ∷ bytes))
    go true e f = f (after_ascii byte bytes (space_low byte e) u)
    go false e f = u

-- behind white space and one ASCII byte
after_mark : (bytes : List ℕ) (byte : ℕ) (rest : List ℕ) → byte < 128 → after_space bytes ≡ byte ∷ rest → IsUtf8 bytes → IsUtf8 rest
after_mark bytes byte rest h e u = after_ascii byte rest h (subst IsUtf8 e (spaces_utf8 bytes u))

abbrev mutual
  -- each number is one of JSON, and each text is UTF-8
  pub IsProper : JsonValue → Type 0
  IsProper (json.Number text) = is_json_number text ≡ true
  IsProper (json.Text text) = IsUtf8 text
  IsProper (json.Array row) = AreProper row
  IsProper (json.Object row) = PairsAreProper row
  IsProper _ = ⊤

  pub AreProper : Values → Type 0
  AreProper no_values = ⊤
  AreProper (a_value value row) = IsProper value × AreProper row

  pub PairsAreProper : Members → Type 0
  PairsAreProper no_members = ⊤
  PairsAreProper (a_member text value row) = IsUtf8 text × IsProper value × PairsAreProper row

word_utf8 : (letters rest : List ℕ) → IsUtf8 letters → IsUtf8 (letters ++ rest) → IsUtf8 rest
word_utf8 letters rest u k = subst IsUtf8 (drop_at letters rest (length letters) refl) (IsUtf8-drop (letters ++ rest) (length letters) k (IsCharBoundary-from_take (letters ++ rest) (length letters) k (omega (arith, length-append letters rest)) (subst IsUtf8 (sym (take_at letters rest (length letters) refl)) u)))

mutual
  value_proper : {bytes rest : List ℕ} {v : JsonValue} → IsValue bytes v rest → IsUtf8 bytes → IsProper v × IsUtf8 rest
  value_proper (null {rest = rest}) u = (tt, word_utf8 (codes "null") rest (ascii_utf8 (codes "null") refl) u)
  value_proper (truth {rest = rest}) u = (tt, word_utf8 (codes "true") rest (ascii_utf8 (codes "true") refl) u)
  value_proper (falsehood {rest = rest}) u = (tt, word_utf8 (codes "false") rest (ascii_utf8 (codes "false") refl) u)
  value_proper (number {text = text} {rest = rest} e n) u = (number_tested n, word_utf8 text rest (number_utf8 text n) (subst IsUtf8 e u))
  value_proper (string {bytes = bytes} s) u = string_utf8 [] s (after_ascii 34 bytes (omega arith) u)
  value_proper (empty_array {bytes = bytes} {rest = rest} e) u = (tt, after_mark bytes 93 rest (omega arith) e (after_ascii 91 bytes (omega arith) u))
  value_proper (array {bytes = bytes} vs) u = row_proper vs (spaces_utf8 bytes (after_ascii 91 bytes (omega arith) u))
  value_proper (empty_object {bytes = bytes} {rest = rest} e) u = (tt, after_mark bytes 125 rest (omega arith) e (after_ascii 123 bytes (omega arith) u))
  value_proper (object {bytes = bytes} vs) u = pairs_proper vs (spaces_utf8 bytes (after_ascii 123 bytes (omega arith) u))

  row_proper : {bytes rest : List ℕ} {row : Values} → AreJsonValues bytes row rest → IsUtf8 bytes → AreProper row × IsUtf8 rest
  row_proper (last_value {after = after} {rest = rest} v e) u = let i = value_proper v u in ((i.0, tt), after_mark after 93 rest (omega arith) e i.1)
  row_proper (more_values {after = after} {next = next} v e vs) u =
      let i = value_proper v u in
      let j = row_proper vs (spaces_utf8 next (after_mark after 44 next (omega arith) e i.1)) in
      ((i.0, j.0), j.1)

  pairs_proper : {bytes rest : List ℕ} {row : Members} → AreMembers bytes row rest → IsUtf8 bytes → PairsAreProper row × IsUtf8 rest
  pairs_proper (last_member {bytes = bytes} {colon = colon} {next = next} {after = after} {rest = rest} k c v e) u =
      let s = string_utf8 [] k (after_ascii 34 bytes (omega arith) u) in
      let i = value_proper v (spaces_utf8 next (after_mark colon 58 next (omega arith) c s.1)) in
      ((s.0, i.0, tt), after_mark after 125 rest (omega arith) e i.1)
  pairs_proper (more_members {bytes = bytes} {colon = colon} {next = next} {after = after} {more = more} k c v e vs) u =
      let s = string_utf8 [] k (after_ascii 34 bytes (omega arith) u) in
      let i = value_proper v (spaces_utf8 next (after_mark colon 58 next (omega arith) c s.1)) in
      let j = pairs_proper vs (spaces_utf8 more (after_mark after 44 more (omega arith) e i.1)) in
      ((s.0, i.0, j.0), j.1)

pub denoted-proper : {bytes : List ℕ} {v : JsonValue} → Denotes bytes v → IsProper v
denoted-proper {bytes} d = (value_proper d.is_value (spaces_utf8 bytes d.utf8)).0
