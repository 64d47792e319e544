-- What is written of a value is no longer than a text that denotes it.
use Rattle.std.specs.Prelude.{◌≡◌, ℕ, ◌+◌, ◌<◌, ◌≤◌, Bool, true, false, cond, ◌||◌, ◌==◌, nat_lt, List, [], ◌∷◌, ◌++◌, length, Option, Some, None, Ok, codes, refl}
use Rattle.std.specs.Char.{encode_utf8}
use Rattle.std.specs.Fmt.{signed_decimal}
use Rattle.std.specs.Str.{bytes_eq}
use Rattle.std.proofs.Common.{sym, ap, subst, ◌∙◌, arith, length-append, inl, inr}
use Rattle.std.proofs.lemmas.Bool.{cases_lt}
use lib.Utf8.{scalar_cases}
use Rattle.std.proofs.lemmas.Bool.Decides.{nat_tests}
use Rattle.std.proofs.lemmas.Str.{length-encode, len_utf8_bounds}
use Rattle.sval_json.specs.Digits.{is_json_number}
use Rattle.sval_json.specs.Escape as quoted
use Rattle.sval_json.specs.Escape.{escape_text, escaped, in_quotes, is_plain, low_byte, short_escape}
use Rattle.sval_json.specs.Json as shape
use Rattle.sval_json.specs.Json.{Json, compact, compact_items, compact_pairs}
use Rattle.sval_json.specs.Shape.{json_of}
use Rattle.sval_json.specs.Grammar as json
use Rattle.sval_json.specs.Grammar.{JsonValue, Values, Members, is_unescaped, escaped_byte, pair_of, IsString, close, unescaped, escape, unit, pair, IsValue, null, truth, falsehood, number, string, empty_array, array, empty_object, object, AreJsonValues, last_value, more_values, AreMembers, last_member, more_members, Denotes}
use Rattle.sval_json.proofs.Texts.{escaped-append}
use Rattle.sval_json.proofs.EscapedPieces.{escape-plain}
use Rattle.sval_json.proofs.NumberTexts.{high_stays, high_encoded, low_encoded}
use Rattle.sval_json_read.specs.Trees.{whole_value, fits_i64, tree_of, settled_number}
use Rattle.sval_json_read.proofs.SettledNumbers.{fits-written}
use Rattle.sval_json_read.proofs.SettledTrees.{number_json, written, written_items, written_pairs, shaped}
use Rattle.sval_json_read.proofs.Utf8Texts.{IsProper, AreProper, PairsAreProper, denoted-proper, are_hex, pair_scalar}
use Rattle.sval_json_read.proofs.WritableTrees.{spaces_length, mark_length}

-- ---- one byte

escape_length : (byte : ℕ) → length (quoted.escape byte) ≤ 6
escape_length byte = by_letter (short_escape byte)
  where
    by_range : (low : Bool) → length (cond low (codes "\\u00" ++ low_byte byte) (byte ∷ [])) ≤ 6
    by_range true = omega arith
    by_range false = omega arith

    by_letter : (o : Option ℕ) → length (escape_text byte o) ≤ 6
    by_letter (Some letter) = omega arith
    by_letter None = by_range (nat_lt byte 32)

plain_length : (byte : ℕ) → is_unescaped byte ≡ true → length (quoted.escape byte) ≡ 1
plain_length byte h =
    let plain : is_plain byte ≡ true = grind (arith, nat_tests) in
    ap length (escape-plain byte plain)

-- a byte with a short escape is written by that escape, or as it is
letter_length : (letter byte : ℕ) → escaped_byte letter ≡ Some byte → length (quoted.escape byte) ≤ 2
letter_length letter byte e = go (letter == 34) (letter == 92) (letter == 47) (letter == 98) (letter == 102) (letter == 110) (letter == 114) (letter == 116) refl refl refl e
  where
    at_byte : (b : ℕ) → length (quoted.escape b) ≤ 2 → b ≡ byte → length (quoted.escape byte) ≤ 2
    at_byte b h same = subst (λ x. length (quoted.escape x) ≤ 2) same h

    at_letter : (b : ℕ) → length (quoted.escape b) ≤ 2 → letter ≡ b → letter ≡ byte → length (quoted.escape byte) ≤ 2
    at_letter b h is same = at_byte b h (sym is ∙ same)

    go : (q b s p r t u v : Bool) → (letter == 34) ≡ q → (letter == 92) ≡ b → (letter == 47) ≡ s
        → cond (q || b || s) (Some letter) (cond p (Some 8) (cond r (Some 12) (cond t (Some 10) (cond u (Some 13) (cond v (Some 9) None))))) ≡ Some byte
        → length (quoted.escape byte) ≤ 2
    go true b s p r t u v x y z f = let is : letter ≡ 34 = grind (arith, nat_tests) in let same : letter ≡ byte = cc in at_letter 34 (omega arith) is same
    go false true s p r t u v x y z f = let is : letter ≡ 92 = grind (arith, nat_tests) in let same : letter ≡ byte = cc in at_letter 92 (omega arith) is same
    go false false true p r t u v x y z f = let is : letter ≡ 47 = grind (arith, nat_tests) in let same : letter ≡ byte = cc in at_letter 47 (omega arith) is same
    go false false false true r t u v x y z f = let same : 8 ≡ byte = cc in at_byte 8 (omega arith) same
    go false false false false true t u v x y z f = let same : 12 ≡ byte = cc in at_byte 12 (omega arith) same
    go false false false false false true u v x y z f = let same : 10 ≡ byte = cc in at_byte 10 (omega arith) same
    go false false false false false false true v x y z f = let same : 13 ≡ byte = cc in at_byte 13 (omega arith) same
    go false false false false false false false true x y z f = let same : 9 ≡ byte = cc in at_byte 9 (omega arith) same
    go false false false false false false false false x y z f = absurd (cc f)

-- ---- one character

high_length : (c : ℕ) → 128 ≤ c → c < 1114112 → length (escaped (encode_utf8 c)) ≤ 4
high_length c h bound =
    let b = len_utf8_bounds c in
    let same = ap length (high_stays (encode_utf8 c) (high_encoded c h bound)) in
    omega (arith, same, length-encode c, b.1)

low_length : (c : ℕ) → c < 128 → length (escaped (encode_utf8 c)) ≤ 6
low_length c h =
    let same = ap (λ text. length (escaped text)) (low_encoded c h) in
    omega (arith, same, escape_length c, length-append (quoted.escape c) [])

unit_length : (u : ℕ) → u < 65536 → length (escaped (encode_utf8 u)) ≤ 6
unit_length u small = elim (cases_lt u 128) [
  | inl low ↦ low_length u low
  | inr high ↦ let l = high_length u high (omega arith) in omega arith
]

pair_length : (high low : ℕ) → json.is_high_surrogate high ≡ true → json.is_low_surrogate low ≡ true → length (escaped (encode_utf8 (pair_of high low))) ≤ 12
pair_length high low h l =
    let c = pair_of high low in
    let above : 128 ≤ c = omega arith in
    let below : c < 1114112 = elim (scalar_cases c (pair_scalar high low h l)) [ inl small ↦ omega arith | inr large ↦ large.1 ] in
    let four = high_length c above below in
    omega arith

-- ---- a string

both_length : (c : ℕ) (text : List ℕ) → length (escaped (encode_utf8 c ++ text)) ≡ length (escaped (encode_utf8 c)) + length (escaped text)
both_length c text = ap length (escaped-append (encode_utf8 c) text) ∙ length-append (escaped (encode_utf8 c)) (escaped text)

string_length : {bytes text rest : List ℕ} → IsString bytes text rest → length (escaped text) + length rest < length bytes
string_length close = omega arith
string_length (unescaped {byte = byte} {text = text} h s) =
    let i = string_length s in omega (arith, length-append (quoted.escape byte) (escaped text), plain_length byte h, i)
string_length (escape {letter = letter} {byte = byte} {text = text} e s) =
    let i = string_length s in omega (arith, length-append (quoted.escape byte) (escaped text), letter_length letter byte e, i)
string_length (unit {a = a} {b = b} {c = c} {d = d} {u = u} {text = text} e f s) =
    let i = string_length s in
    let l = unit_length u (are_hex a b c d u e).small in
    let k = both_length u text in
    omega arith
string_length (pair {high = high} {low = low} {text = text} p q r t s) =
    let i = string_length s in
    let l = pair_length high low q t in
    let k = both_length (pair_of high low) text in
    omega arith

-- the text between quotes
quotes_length : (text : List ℕ) → length (in_quotes (escaped text)) ≡ length (escaped text) + 2
quotes_length text = omega (arith, length-append (escaped text) (codes "\""))

-- ---- a number

settled_length : (text : List ℕ) → length (settled_number text) ≤ length text
settled_length [] = omega arith
settled_length (byte ∷ bytes) = go (bytes_eq (byte ∷ bytes) (codes "-0"))
  where
    go : (b : Bool) → length (cond b (codes "0") (byte ∷ bytes)) ≤ length (byte ∷ bytes)
    go true = omega arith
    go false = omega arith

number_length : (text : List ℕ) → is_json_number text ≡ true → length (compact (number_json text)) ≤ length text
number_length text h = go (fits_i64 text) refl
  where
    go : (b : Bool) → fits_i64 text ≡ b → length (compact (cond b (shape.number (signed_decimal (whole_value text))) (shape.raw text))) ≤ length text
    go true e = let same = ap length (fits-written text h e) in let s = settled_length text in omega (arith, same, s)
    go false e = omega arith

-- ---- a value

-- a comma is before each element but the first
items_behind : {bytes rest : List ℕ} {row : Values} → AreJsonValues bytes row rest
    → length (compact_items false (written_items row)) ≡ length (compact_items true (written_items row)) + 1
items_behind (last_value v e) = omega arith
items_behind (more_values v e vs) = omega arith

pairs_behind : {bytes rest : List ℕ} {row : Members} → AreMembers bytes row rest
    → length (compact_pairs false (written_pairs row)) ≡ length (compact_pairs true (written_pairs row)) + 1
pairs_behind (last_member k c v e) = omega arith
pairs_behind (more_members k c v e vs) = omega arith

-- a member, and what is behind it
pair_length_is : (text value others : List ℕ)
    → length (in_quotes (escaped text) ++ codes ":" ++ value ++ others) ≡ length (in_quotes (escaped text)) + 1 + length value + length others
pair_length_is text value others =
    let key = in_quotes (escaped text) in
    omega (arith, length-append (key ++ codes ":" ++ value) others, length-append (key ++ codes ":") value, length-append key (codes ":"))

mutual
  value_length : {bytes rest : List ℕ} (v : JsonValue) → IsProper v → IsValue bytes v rest → length (compact (written v)) + length rest ≤ length bytes
  value_length v p null = omega arith
  value_length v p truth = omega arith
  value_length v p falsehood = omega arith
  value_length v p (number {text = text} {rest = rest} e m) =
      let k = ap length e ∙ length-append text rest in omega (arith, k, number_length text p)
  value_length v p (string {text = text} s) = omega (arith, string_length s, quotes_length text)
  value_length v p (empty_array {bytes = bytes} {rest = rest} e) = omega (arith, mark_length bytes 93 rest e)
  value_length v p (array {bytes = bytes} {values = row} vs) =
      omega (arith, spaces_length bytes, items_length row p vs, length-append (compact_items true (written_items row)) (codes "]"))
  value_length v p (empty_object {bytes = bytes} {rest = rest} e) = omega (arith, mark_length bytes 125 rest e)
  value_length v p (object {bytes = bytes} {members = row} vs) =
      omega (arith, spaces_length bytes, pairs_length row p vs, length-append (compact_pairs true (written_pairs row)) (codes "}"))

  items_length : {bytes rest : List ℕ} (row : Values) → AreProper row → AreJsonValues bytes row rest
      → length (compact_items true (written_items row)) + 1 + length rest ≤ length bytes
  items_length row p (last_value {after = after} {rest = rest} {value = v} i e) =
      omega (arith, value_length v p.0 i, mark_length after 93 rest e, length-append (compact (written v)) [])
  items_length row p (more_values {after = after} {next = next} {value = v} {values = more} i e vs) =
      omega (
        arith,
        value_length v p.0 i,
        mark_length after 44 next e,
        spaces_length next,
        items_length more p.1 vs,
        items_behind vs,
        length-append (compact (written v)) (compact_items false (written_items more)),
      )

  pairs_length : {bytes rest : List ℕ} (row : Members) → PairsAreProper row → AreMembers bytes row rest
      → length (compact_pairs true (written_pairs row)) + 1 + length rest ≤ length bytes
  pairs_length row p (last_member {text = text} {colon = colon} {next = next} {after = after} {rest = rest} {value = v} k c i e) =
      omega (
        arith,
        string_length k,
        quotes_length text,
        mark_length colon 58 next c,
        spaces_length next,
        value_length v p.1 i,
        mark_length after 125 rest e,
        pair_length_is text (compact (written v)) [],
      )
  pairs_length row p (more_members {text = text} {colon = colon} {next = next} {after = after} {more = more} {value = v} {members = others} k c i e vs) =
      omega (
        arith,
        string_length k,
        quotes_length text,
        mark_length colon 58 next c,
        spaces_length next,
        value_length v p.1 i,
        mark_length after 44 more e,
        spaces_length more,
        pairs_length others p.2 vs,
        pairs_behind vs,
        pair_length_is text (compact (written v)) (compact_pairs false (written_pairs others)),
      )

-- of a text that denotes a value
pub denoted-shorter : {bytes : List ℕ} {v : JsonValue} (json : Json) → Denotes bytes v → json_of (tree_of v) ≡ Ok json → length (compact json) ≤ length bytes
denoted-shorter {bytes} {v} json d e =
    let proper = denoted-proper d in
    let both : Ok (written v) ≡ Ok json = sym (shaped v proper) ∙ e in
    let same : written v ≡ json = cc in
    let l = value_length v proper d.is_value in
    let s = spaces_length bytes in
    subst (λ j. length (compact j) ≤ length bytes) same (omega (arith, l, s))
