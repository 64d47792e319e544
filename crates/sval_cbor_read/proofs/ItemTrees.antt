-- The tree of an item promises nothing that it doesn't keep, and a script can spell it where the bytes are as memory can hold them.
use Rattle.std.specs.Prelude.{◌≡◌, ℕ, ◌+◌, ◌^◌, ◌<◌, ◌≤◌, List, length, take, drop, Some}
use Rattle.std.proofs.Common.{ap, subst, arith, length-append}
use Rattle.std.proofs.lemmas.List.{take-append-drop}
use Rattle.sval_core.specs.Trees.{Tree, Parts}
use Rattle.sval_core.specs.Real.{IsWritable, AreWritable, IsPrintable}
use Rattle.sval_json.specs.Promises.{KeepsPromises, KeepPromises}
use Rattle.sval_cbor_read.specs.Items.{head, head_at_front, IsDefiniteString, string, ArePieces, break, piece, IsByteString, definite, in_pieces, IsItem, by_head, bytes_in_pieces, texts_in_pieces, seq_to_break, map_to_break, falsehood, truth, null, IsBody, unsigned, negative, binary, text, seq, map, big, negative_big, tagged, AreItems, no_items, an_item, AreEntries, no_pairs, a_pair, ItemsToBreak, items_end, items_go_on, EntriesToBreak, entries_end, entries_go_on, IsItemOf}
use Rattle.sval_cbor_read.specs.Serves.{IsInMemory}
use Rattle.sval_cbor_read.proofs.Nearer.{IsShorter, head_shorter}
use Rattle.sval_cbor_read.proofs.RealItems.{item_is_real}

-- ---- what is read is no longer than the bytes

after_length : (bytes : List ℕ) {major n : ℕ} {after : List ℕ} → head_at_front bytes ≡ Some (head major n after) → length after < length bytes
after_length bytes e = subst (IsShorter bytes) e (head_shorter bytes)

taken_length : (n : ℕ) (after : List ℕ) → length (take n after) + length (drop n after) ≤ length after
taken_length n after = let e = ap length (take-append-drop n after) in omega (arith, length-append (take n after) (drop n after))

string_length : {major : ℕ} {bytes content rest : List ℕ} → IsDefiniteString major bytes content rest → length content + length rest < length bytes
string_length (string {number = n} {bytes = bytes} {after = after} e l k) = let a = after_length bytes e in let t = taken_length n after in omega arith

pieces_length : {major : ℕ} {bytes content rest : List ℕ} → ArePieces major bytes content rest → length content + length rest < length bytes
pieces_length break = omega arith
pieces_length (piece {content = content} {more = more} s p) = let a = string_length s in let b = pieces_length p in omega (arith, length-append content more)

byte_string_length : {bytes content rest : List ℕ} → IsByteString bytes content rest → length content + length rest < length bytes
byte_string_length (definite s) = string_length s
byte_string_length (in_pieces p) = let a = pieces_length p in omega arith

-- ---- trees

-- it is writable, and keeps its promises; and the rest is shorter than this
abbrev IsPlain : Tree → List ℕ → ℕ → Type 0
IsPlain tree rest k = IsWritable tree × KeepsPromises tree × (length rest < k)

abbrev ArePlain : Parts → List ℕ → ℕ → Type 0
ArePlain parts rest k = AreWritable parts × KeepPromises parts × (length rest < k)

mutual
  item_plain : {bytes rest : List ℕ} {tree : Tree} → IsItem bytes tree rest → length bytes < 2 ^ 64 → IsPlain tree rest (2 ^ 64)
  item_plain (by_head {bytes = bytes} e b) l = let a = after_length bytes e in body_plain b (omega arith)
  item_plain (bytes_in_pieces p) l = let a = pieces_length p in (omega arith, tt, omega arith)
  item_plain (texts_in_pieces p) l = let a = pieces_length p in (omega arith, tt, omega arith)
  item_plain (seq_to_break s) l = let a = items_to_break_plain s (omega arith) in (((tt, tt, tt), a.0), a.1, a.2)
  item_plain (map_to_break s) l = let a = entries_to_break_plain s (omega arith) in (((tt, tt, tt), a.0), a.1, a.2)
  item_plain falsehood l = (tt, tt, omega arith)
  item_plain truth l = (tt, tt, omega arith)
  item_plain null l = (tt, tt, omega arith)

  body_plain : {major n : ℕ} {after rest : List ℕ} {tree : Tree} → IsBody major n after tree rest → length after < 2 ^ 64 → IsPlain tree rest (2 ^ 64)
  body_plain unsigned l = (tt, tt, l)
  body_plain negative l = (tt, tt, l)
  body_plain (binary {n = n} {after = after} k) l = let t = taken_length n after in (omega arith, tt, omega arith)
  body_plain (text {n = n} {after = after} k u) l = let t = taken_length n after in (omega arith, tt, omega arith)
  body_plain (seq s) l = let a = items_plain s l in (((tt, tt, tt), a.0), a.1, a.2)
  body_plain (map s) l = let a = entries_plain s l in (((tt, tt, tt), a.0), a.1, a.2)
  body_plain (big s k) l = let a = byte_string_length s in (tt, tt, omega arith)
  body_plain (negative_big s k) l = let a = byte_string_length s in (tt, tt, omega arith)
  body_plain (tagged i k s) l = item_plain s l

  items_plain : {n : ℕ} {bytes rest : List ℕ} {parts : Parts} → AreItems n bytes parts rest → length bytes < 2 ^ 64 → ArePlain parts rest (2 ^ 64)
  items_plain no_items l = (tt, tt, l)
  items_plain (an_item i s) l = let a = item_plain i l in let b = items_plain s a.2 in ((tt, a.0, b.0), (tt, a.1, b.1), b.2)

  entries_plain : {n : ℕ} {bytes rest : List ℕ} {parts : Parts} → AreEntries n bytes parts rest → length bytes < 2 ^ 64 → ArePlain parts rest (2 ^ 64)
  entries_plain no_pairs l = (tt, tt, l)
  entries_plain (a_pair i v s) l =
      let a = item_plain i l in
      let b = item_plain v a.2 in
      let c = entries_plain s b.2 in
      ((tt, a.0, (tt, b.0, c.0)), (tt, a.1, (tt, b.1, c.1)), c.2)

  items_to_break_plain : {bytes rest : List ℕ} {parts : Parts} → ItemsToBreak bytes parts rest → length bytes < 2 ^ 64 → ArePlain parts rest (2 ^ 64)
  items_to_break_plain items_end l = (tt, tt, omega arith)
  items_to_break_plain (items_go_on i s) l = let a = item_plain i l in let b = items_to_break_plain s a.2 in ((tt, a.0, b.0), (tt, a.1, b.1), b.2)

  entries_to_break_plain : {bytes rest : List ℕ} {parts : Parts} → EntriesToBreak bytes parts rest → length bytes < 2 ^ 64 → ArePlain parts rest (2 ^ 64)
  entries_to_break_plain entries_end l = (tt, tt, omega arith)
  entries_to_break_plain (entries_go_on i v s) l =
      let a = item_plain i l in
      let b = item_plain v a.2 in
      let c = entries_to_break_plain s b.2 in
      ((tt, a.0, (tt, b.0, c.0)), (tt, a.1, (tt, b.1, c.1)), c.2)

pub item_printable : {bytes : List ℕ} {tree : Tree} → IsInMemory bytes → IsItemOf bytes tree → IsPrintable tree
item_printable {bytes} {tree} m i = (item_is_real bytes tree m.bytes i, (item_plain i m.few).0)

pub item_promises : {bytes : List ℕ} {tree : Tree} → IsInMemory bytes → IsItemOf bytes tree → KeepsPromises tree
item_promises m i = (item_plain i m.few).1
