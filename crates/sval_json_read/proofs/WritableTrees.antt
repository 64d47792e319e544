-- A script can spell the tree of a text whose length has 64 bits.
use Rattle.std.specs.Prelude.{◌≡◌, ℕ, ◌+◌, ◌^◌, ◌<◌, ◌≤◌, Bool, true, false, cond, List, [], ◌∷◌, ◌++◌, length, refl, ⊤}
use Rattle.std.specs.Char.{encode_utf8}
use Rattle.std.proofs.Common.{ap, ◌∙◌, arith, length-append}
use Rattle.std.proofs.lemmas.Str.{length-encode, len_utf8_bounds}
use Rattle.sval_label.specs.Calls.{I64}
use Rattle.sval_core.specs.Trees.{Tree, Text}
use Rattle.sval_core.specs.Real.{IsWritable, AreWritable, IsPrintable}
use Rattle.sval_json.specs.Grammar as json
use Rattle.sval_json.specs.Grammar.{JsonValue, Values, no_values, a_value, Members, no_members, a_member, after_space, is_space, pair_of, IsString, close, unescaped, escape, unit, pair, IsValue, null, truth, falsehood, number, string, empty_array, array, empty_object, object, AreJsonValues, last_value, more_values, AreMembers, last_member, more_members, Denotes}
use Rattle.sval_json_read.specs.Trees.{whole_value, fits_i64, number_name, number_tree, tree_of, items_of, entries_of}
use Rattle.sval_json_read.proofs.SettledTrees.{denoted-real}

-- ---- what is read is no longer than the bytes

encoded_length : (c : ℕ) (text : List ℕ) → length (encode_utf8 c ++ text) ≤ 4 + length text
encoded_length c text = let b = len_utf8_bounds c in omega (arith, length-append (encode_utf8 c) text, length-encode c, b.1)

string_length : {bytes text rest : List ℕ} → IsString bytes text rest → length text + length rest < length bytes
string_length close = omega arith
string_length (unescaped h s) = let i = string_length s in omega arith
string_length (escape e s) = let i = string_length s in omega arith
string_length (unit {u = u} {text = text} e f s) = let i = string_length s in let l = encoded_length u text in omega arith
string_length (pair {high = high} {low = low} {text = text} p q r t s) = let i = string_length s in let l = encoded_length (pair_of high low) text in omega arith

pub spaces_length : (bytes : List ℕ) → length (after_space bytes) ≤ length bytes
spaces_length [] = omega arith
spaces_length (byte ∷ bytes) = go (is_space byte) (spaces_length bytes)
  where
    go : (b : Bool) → length (after_space bytes) ≤ length bytes → length (cond b (after_space bytes) (byte ∷ bytes)) ≤ length (byte ∷ bytes)
    go true h = omega arith
    go false h = omega arith

pub mark_length : (bytes : List ℕ) (byte : ℕ) (rest : List ℕ) → after_space bytes ≡ byte ∷ rest → length rest < length bytes
mark_length bytes byte rest e = let s = spaces_length bytes in let l = ap length e in omega arith

abbrev mutual
  -- each number and each text is shorter
  IsShorter : ℕ → JsonValue → Type 0
  IsShorter n (json.Number text) = length text < n
  IsShorter n (json.Text text) = length text < n
  IsShorter n (json.Array row) = AreShorter n row
  IsShorter n (json.Object row) = PairsAreShorter n row
  IsShorter n _ = ⊤

  AreShorter : ℕ → Values → Type 0
  AreShorter n no_values = ⊤
  AreShorter n (a_value v row) = IsShorter n v × AreShorter n row

  PairsAreShorter : ℕ → Members → Type 0
  PairsAreShorter n no_members = ⊤
  PairsAreShorter n (a_member text v row) = (length text < n) × IsShorter n v × PairsAreShorter n row

mutual
  value_shorter : {bytes rest : List ℕ} {v : JsonValue} (n : ℕ) → IsValue bytes v rest → length bytes < n → IsShorter n v × (length rest < n)
  value_shorter n null l = (tt, omega arith)
  value_shorter n truth l = (tt, omega arith)
  value_shorter n falsehood l = (tt, omega arith)
  value_shorter n (number {text = text} {rest = rest} e m) l = let k = ap length e ∙ length-append text rest in (omega arith, omega arith)
  value_shorter n (string s) l = let k = string_length s in (omega arith, omega arith)
  value_shorter n (empty_array {bytes = bytes} {rest = rest} e) l = let k = mark_length bytes 93 rest e in (tt, omega arith)
  value_shorter n (array {bytes = bytes} vs) l = let k = spaces_length bytes in row_shorter n vs (omega arith)
  value_shorter n (empty_object {bytes = bytes} {rest = rest} e) l = let k = mark_length bytes 125 rest e in (tt, omega arith)
  value_shorter n (object {bytes = bytes} vs) l = let k = spaces_length bytes in pairs_shorter n vs (omega arith)

  row_shorter : {bytes rest : List ℕ} {row : Values} (n : ℕ) → AreJsonValues bytes row rest → length bytes < n → AreShorter n row × (length rest < n)
  row_shorter n (last_value {after = after} {rest = rest} v e) l =
      let i = value_shorter n v l in let k = mark_length after 93 rest e in let m = i.1 in ((i.0, tt), omega arith)
  row_shorter n (more_values {after = after} {next = next} v e vs) l =
      let i = value_shorter n v l in
      let k = mark_length after 44 next e in
      let s = spaces_length next in
      let m = i.1 in
      let j = row_shorter n vs (omega arith) in
      ((i.0, j.0), j.1)

  pairs_shorter : {bytes rest : List ℕ} {row : Members} (n : ℕ) → AreMembers bytes row rest → length bytes < n → PairsAreShorter n row × (length rest < n)
  pairs_shorter n (last_member {colon = colon} {next = next} {after = after} {rest = rest} k c v e) l =
      let t = string_length k in
      let o = mark_length colon 58 next c in
      let s = spaces_length next in
      let i = value_shorter n v (omega arith) in
      let m = i.1 in
      let q = mark_length after 125 rest e in
      ((omega arith, i.0, tt), omega arith)
  pairs_shorter n (more_members {colon = colon} {next = next} {after = after} {more = more} k c v e vs) l =
      let t = string_length k in
      let o = mark_length colon 58 next c in
      let s = spaces_length next in
      let i = value_shorter n v (omega arith) in
      let m = i.1 in
      let q = mark_length after 44 more e in
      let r = spaces_length more in
      let j = pairs_shorter n vs (omega arith) in
      ((omega arith, i.0, j.0), j.1)

-- ---- trees

number_writable : (text : List ℕ) → length text < 2 ^ 64 → IsWritable (number_tree text)
number_writable text l = go (fits_i64 text)
  where
    go : (b : Bool) → IsWritable (cond b (Tree.Int I64 (whole_value text)) (Tree.Tagged number_name (Text text)))
    go true = tt
    go false = ((refl, tt, tt), l)

mutual
  writable : (v : JsonValue) → IsShorter (2 ^ 64) v → IsWritable (tree_of v)
  writable json.Null s = tt
  writable (json.Truth b) s = tt
  writable (json.Number text) s = number_writable text s
  writable (json.Text text) s = s
  writable (json.Array row) s = ((tt, tt, tt), items_writable row s)
  writable (json.Object row) s = ((tt, tt, tt), entries_writable row s)

  items_writable : (row : Values) → AreShorter (2 ^ 64) row → AreWritable (items_of row)
  items_writable no_values s = tt
  items_writable (a_value v row) s = (tt, writable v s.0, items_writable row s.1)

  entries_writable : (row : Members) → PairsAreShorter (2 ^ 64) row → AreWritable (entries_of row)
  entries_writable no_members s = tt
  entries_writable (a_member text v row) s = (tt, s.0, (tt, writable v s.1, entries_writable row s.2))

pub denoted-printable : {bytes : List ℕ} {v : JsonValue} → length bytes < 2 ^ 64 → Denotes bytes v → IsPrintable (tree_of v)
denoted-printable {bytes} {v} l d =
    let k = spaces_length bytes in ((denoted-real d).0, writable v (value_shorter (2 ^ 64) d.is_value (omega arith)).0)
