-- The trees of items are real, and where one has no JSON, a key is no text.
use Rattle.std.specs.Prelude.{◌≡◌, ℕ, ◌/◌, ◌%◌, ◌^◌, ◌<◌, negsuc, Bool, true, false, ◌==◌, nat_lt, nat_le, if◌then◌else◌, List, [], ◌∷◌, length, take, drop, Option, Some, None, Result, Ok, Err, IsUtf8, ⊤, refl}
use Rattle.std.specs.Int.Digits.{number_from_digits}
use Rattle.std.proofs.Common.{subst, arith}
use Rattle.std.proofs.lemmas.Bool.Decides.{nat_tests}
use Rattle.std.proofs.lemmas.Str.{IsUtf8-from_is_utf8, IsUtf8-append, IsUtf8-nil}
use Rattle.sval_label.specs.Calls.{I64, I128, Item, Key, Value}
use Rattle.sval_label.specs.Ranges.{is_of_type}
use Rattle.sval_core.specs.Trees.{Tree, Parts, part}
use Rattle.sval_core.specs.Real.{AreBytes, IsInRange, AreInRange, IsReal}
use Rattle.sval_core.proofs.RealTrees.{bytes_joined}
use Rattle.sval_json.specs.Json as shape
use Rattle.sval_json.specs.Number.{Refusal, InvalidKey, InvalidNumber}
use Rattle.sval_json.specs.declared.style.Variants.TheVariants.{Inside}
use Rattle.sval_json.specs.Shape.{on_ok, map_ok, key, shape as shape_of, items, pairs, json_of}
use Rattle.sval_cbor_read.specs.Items.{ItemHead, head, wide_head, head_at_front, negative_type, big_endian, IsDefiniteString, string, ArePieces, break, piece, IsByteString, definite, in_pieces, IsItem, by_head, bytes_in_pieces, texts_in_pieces, seq_to_break, map_to_break, falsehood, truth, null, IsBody, unsigned, negative, binary, text, seq, map, big, negative_big, tagged, AreItems, no_items, an_item, AreEntries, no_pairs, a_pair, ItemsToBreak, items_end, items_go_on, EntriesToBreak, entries_end, entries_go_on, IsItemOf}
use Rattle.sval_cbor_read.proofs.Heads.{all_front, all_after}
use Rattle.sval_cbor_read.proofs.LeastHeads.{IsBoundedHead, head_bounded}
use Rattle.sval_cbor_read.proofs.Complete.{item_is_read}

-- ---- refusals

-- no refusal, or that of a key
abbrev IsKeyRefusal : {T : Type 0} → Result T Refusal → Type 0
IsKeyRefusal (Ok x) = ⊤
IsKeyRefusal (Err InvalidKey) = ⊤
IsKeyRefusal (Err InvalidNumber) = ⊥

key_map : {T U : Type 0} (f : T → U) (r : Result T Refusal) → IsKeyRefusal r → IsKeyRefusal (map_ok f r)
key_map f (Ok x) h = tt
key_map f (Err InvalidKey) h = tt
key_map f (Err InvalidNumber) h = h

key_on : {T U : Type 0} (f : T → Result U Refusal) (r : Result T Refusal) → ((x : T) → IsKeyRefusal (f x)) → IsKeyRefusal r → IsKeyRefusal (on_ok r f)
key_on f (Ok x) g h = g x
key_on f (Err InvalidKey) g h = tt
key_on f (Err InvalidNumber) g h = h

mutual
  key_of_item : {bytes rest : List ℕ} {tree : Tree} → IsItem bytes tree rest → IsKeyRefusal (key tree false)
  key_of_item (by_head e b) = key_of_body b
  key_of_item (bytes_in_pieces p) = tt
  key_of_item (texts_in_pieces p) = tt
  key_of_item (seq_to_break s) = tt
  key_of_item (map_to_break s) = tt
  key_of_item falsehood = tt
  key_of_item truth = tt
  key_of_item null = tt

  key_of_body : {major n : ℕ} {after rest : List ℕ} {tree : Tree} → IsBody major n after tree rest → IsKeyRefusal (key tree false)
  key_of_body unsigned = tt
  key_of_body negative = tt
  key_of_body (binary l) = tt
  key_of_body (text l u) = tt
  key_of_body (seq s) = tt
  key_of_body (map s) = tt
  key_of_body (big s h) = tt
  key_of_body (negative_big s h) = tt
  key_of_body (tagged h k i) = key_of_item i

item_in_front : (tree : Tree) (parts : Parts) → IsKeyRefusal (shape_of Inside tree false) → IsKeyRefusal (items Inside parts) → IsKeyRefusal (items Inside (part Item tree parts))
item_in_front tree parts h k = key_on (λ json. map_ok (shape.item json) (items Inside parts)) (shape_of Inside tree false) (λ json. key_map (shape.item json) (items Inside parts) k) h

entry_in_front : (name value : Tree) (parts : Parts) → IsKeyRefusal (key name false) → IsKeyRefusal (shape_of Inside value false) → IsKeyRefusal (pairs Inside parts)
    → IsKeyRefusal (pairs Inside (part Key name (part Value value parts)))
entry_in_front name value parts n h k =
    key_on (λ k. on_ok (shape_of Inside value false) (λ json. map_ok (shape.pair k json) (pairs Inside parts))) (key name false)
    (λ named. key_on (λ json. map_ok (shape.pair named json) (pairs Inside parts)) (shape_of Inside value false) (λ json. key_map (shape.pair named json) (pairs Inside parts) k) h) n

mutual
  shape_of_item : {bytes rest : List ℕ} {tree : Tree} → IsItem bytes tree rest → IsKeyRefusal (shape_of Inside tree false)
  shape_of_item (by_head e b) = shape_of_body b
  shape_of_item (bytes_in_pieces p) = tt
  shape_of_item (texts_in_pieces p) = tt
  shape_of_item (seq_to_break {trees = parts} s) = key_map shape.array (items Inside parts) (shapes_to_break s)
  shape_of_item (map_to_break {entries = parts} s) = key_map shape.object (pairs Inside parts) (pairs_to_break s)
  shape_of_item falsehood = tt
  shape_of_item truth = tt
  shape_of_item null = tt

  shape_of_body : {major n : ℕ} {after rest : List ℕ} {tree : Tree} → IsBody major n after tree rest → IsKeyRefusal (shape_of Inside tree false)
  shape_of_body unsigned = tt
  shape_of_body negative = tt
  shape_of_body (binary l) = tt
  shape_of_body (text l u) = tt
  shape_of_body (seq {trees = parts} s) = key_map shape.array (items Inside parts) (shapes_of s)
  shape_of_body (map {entries = parts} s) = key_map shape.object (pairs Inside parts) (pairs_of s)
  shape_of_body (big s h) = tt
  shape_of_body (negative_big s h) = tt
  shape_of_body (tagged h k i) = shape_of_item i

  shapes_of : {n : ℕ} {bytes rest : List ℕ} {parts : Parts} → AreItems n bytes parts rest → IsKeyRefusal (items Inside parts)
  shapes_of no_items = tt
  shapes_of (an_item {tree = tree} {trees = parts} i s) = item_in_front tree parts (shape_of_item i) (shapes_of s)

  pairs_of : {n : ℕ} {bytes rest : List ℕ} {parts : Parts} → AreEntries n bytes parts rest → IsKeyRefusal (pairs Inside parts)
  pairs_of no_pairs = tt
  pairs_of (a_pair {key = name} {value = value} {entries = parts} i v s) = entry_in_front name value parts (key_of_item i) (shape_of_item v) (pairs_of s)

  shapes_to_break : {bytes rest : List ℕ} {parts : Parts} → ItemsToBreak bytes parts rest → IsKeyRefusal (items Inside parts)
  shapes_to_break items_end = tt
  shapes_to_break (items_go_on {tree = tree} {trees = parts} i s) = item_in_front tree parts (shape_of_item i) (shapes_to_break s)

  pairs_to_break : {bytes rest : List ℕ} {parts : Parts} → EntriesToBreak bytes parts rest → IsKeyRefusal (pairs Inside parts)
  pairs_to_break entries_end = tt
  pairs_to_break (entries_go_on {key = name} {value = value} {entries = parts} i v s) = entry_in_front name value parts (key_of_item i) (shape_of_item v) (pairs_to_break s)

is_key : (why : Refusal) → IsKeyRefusal (let r : Result shape.Json Refusal = Err why in r) → why ≡ InvalidKey
is_key InvalidKey h = refl
is_key InvalidNumber h = absurd h

pub refused_by_key : (bytes : List ℕ) (tree : Tree) (why : Refusal) → IsItemOf bytes tree → json_of tree ≡ Err why → why ≡ InvalidKey
refused_by_key bytes tree why i e = is_key why (subst IsKeyRefusal e (shape_of_item i))

-- ---- ranges

abbrev AfterAreBytes : Option ItemHead → Type 0
AfterAreBytes None = ⊤
AfterAreBytes (Some (head major n after)) = AreBytes after

after_wide : (b : Bool) (major n width : ℕ) (bytes : List ℕ) → AreBytes bytes → AfterAreBytes (let o : Option ItemHead = if b then Some (head major n (drop width bytes)) else None in o)
after_wide true major n width bytes h = all_after width bytes h
after_wide false major n width bytes h = tt

after_head : (bytes : List ℕ) → AreBytes bytes → AfterAreBytes (head_at_front bytes)
unfolding head_at_front
after_head [] h = tt
after_head (first ∷ bytes) h = go (nat_lt (first % 32) 24) (first % 32 == 24) (first % 32 == 25) (first % 32 == 26) (first % 32 == 27)
  where
    go : (a b c d f : Bool) → AfterAreBytes (let o : Option ItemHead = if a then Some (head (first / 32) (first % 32) bytes) else if b then wide_head (first / 32) 1 bytes else if c then wide_head (first / 32) 2 bytes else if d then wide_head (first / 32) 4 bytes else if f then wide_head (first / 32) 8 bytes else None in o)
    go true b c d f = h.1
    go false true c d f = after_wide (nat_le 1 (length bytes)) (first / 32) (number_from_digits 256 (take 1 bytes)) 1 bytes h.1
    go false false true d f = after_wide (nat_le 2 (length bytes)) (first / 32) (number_from_digits 256 (take 2 bytes)) 2 bytes h.1
    go false false false true f = after_wide (nat_le 4 (length bytes)) (first / 32) (number_from_digits 256 (take 4 bytes)) 4 bytes h.1
    go false false false false true = after_wide (nat_le 8 (length bytes)) (first / 32) (number_from_digits 256 (take 8 bytes)) 8 bytes h.1
    go false false false false false = tt

after_is : (bytes : List ℕ) (major n : ℕ) (after : List ℕ) → head_at_front bytes ≡ Some (head major n after) → AreBytes bytes → AreBytes after
after_is bytes major n after e h = subst AfterAreBytes e (after_head bytes h)

number_is : (bytes : List ℕ) (major n : ℕ) (after : List ℕ) → head_at_front bytes ≡ Some (head major n after) → AreBytes bytes → n < 2 ^ 64
number_is bytes major n after e h = (subst (IsBoundedHead bytes) e (head_bounded bytes h)).1

string_range : {major : ℕ} {bytes content rest : List ℕ} → IsDefiniteString major bytes content rest → AreBytes bytes → AreBytes content × AreBytes rest
string_range (string {major = major} {number = n} {bytes = bytes} {after = after} e l k) h = let a = after_is bytes major n after e h in (all_front n after a, all_after n after a)

pieces_range : {major : ℕ} {bytes content rest : List ℕ} → ArePieces major bytes content rest → AreBytes bytes → AreBytes content × AreBytes rest
pieces_range break h = (tt, h.1)
pieces_range (piece {content = content} {more = more} s p) h = let a = string_range s h in let b = pieces_range p a.1 in (bytes_joined content more a.0 b.0, b.1)

piece_utf8 : {bytes content rest : List ℕ} → IsDefiniteString 3 bytes content rest → IsUtf8 content
piece_utf8 (string {number = n} {after = after} e l k) = IsUtf8-from_is_utf8 (take n after) k

pieces_utf8 : {bytes content rest : List ℕ} → ArePieces 3 bytes content rest → IsUtf8 content
pieces_utf8 break = IsUtf8-nil
pieces_utf8 (piece {content = content} {more = more} s p) = IsUtf8-append content more (piece_utf8 s) (pieces_utf8 p)

byte_string_range : {bytes content rest : List ℕ} → IsByteString bytes content rest → AreBytes bytes → AreBytes rest
byte_string_range (definite s) h = (string_range s h).1
byte_string_range (in_pieces p) h = (pieces_range p h.1).1

unsigned_fits : (n k : ℕ) → n < 2 ^ k → nat_lt n (2 ^ k) ≡ true
unsigned_fits n k h = grind (arith, nat_tests)

negative_fits : (n : ℕ) → n < 2 ^ 64 → is_of_type (negative_type n) (negsuc n) ≡ true
negative_fits n h = go (nat_lt n (2 ^ 63)) refl
  where
    go : (b : Bool) → nat_lt n (2 ^ 63) ≡ b → is_of_type (if b then I64 else I128) (negsuc n) ≡ true
    go true e = e
    go false e = unsigned_fits n 127 (omega arith)

mutual
  item_range : {bytes rest : List ℕ} {tree : Tree} → IsItem bytes tree rest → AreBytes bytes → IsInRange tree × AreBytes rest
  item_range (by_head {bytes = bytes} {after = after} {major = major} {number = n} e b) h = body_range b (number_is bytes major n after e h) (after_is bytes major n after e h)
  item_range (bytes_in_pieces p) h = pieces_range p h.1
  item_range (texts_in_pieces p) h = (pieces_utf8 p, (pieces_range p h.1).1)
  item_range (seq_to_break s) h = let a = items_to_break_range s h.1 in (((tt, tt), a.0), a.1)
  item_range (map_to_break s) h = let a = entries_to_break_range s h.1 in (((tt, tt), a.0), a.1)
  item_range falsehood h = (tt, h.1)
  item_range truth h = (tt, h.1)
  item_range null h = (tt, h.1)

  body_range : {major n : ℕ} {after rest : List ℕ} {tree : Tree} → IsBody major n after tree rest → n < 2 ^ 64 → AreBytes after → IsInRange tree × AreBytes rest
  body_range (unsigned {n = n}) l h = (unsigned_fits n 64 l, h)
  body_range (negative {n = n}) l h = (negative_fits n l, h)
  body_range (binary {n = n} {after = after} k) l h = (all_front n after h, all_after n after h)
  body_range (text {n = n} {after = after} k u) l h = (IsUtf8-from_is_utf8 (take n after) u, all_after n after h)
  body_range (seq s) l h = let a = items_range s h in (((tt, tt), a.0), a.1)
  body_range (map s) l h = let a = entries_range s h in (((tt, tt), a.0), a.1)
  body_range (big {content = content} s k) l h = (unsigned_fits (big_endian content) 128 k, byte_string_range s h)
  body_range (negative_big {content = content} s k) l h = (unsigned_fits (big_endian content) 127 k, byte_string_range s h)
  body_range (tagged i k s) l h = item_range s h

  items_range : {n : ℕ} {bytes rest : List ℕ} {parts : Parts} → AreItems n bytes parts rest → AreBytes bytes → AreInRange parts × AreBytes rest
  items_range no_items h = (tt, h)
  items_range (an_item i s) h = let a = item_range i h in let b = items_range s a.1 in ((tt, a.0, b.0), b.1)

  entries_range : {n : ℕ} {bytes rest : List ℕ} {parts : Parts} → AreEntries n bytes parts rest → AreBytes bytes → AreInRange parts × AreBytes rest
  entries_range no_pairs h = (tt, h)
  entries_range (a_pair i v s) h = let a = item_range i h in let b = item_range v a.1 in let c = entries_range s b.1 in ((tt, a.0, (tt, b.0, c.0)), c.1)

  items_to_break_range : {bytes rest : List ℕ} {parts : Parts} → ItemsToBreak bytes parts rest → AreBytes bytes → AreInRange parts × AreBytes rest
  items_to_break_range items_end h = (tt, h.1)
  items_to_break_range (items_go_on i s) h = let a = item_range i h in let b = items_to_break_range s a.1 in ((tt, a.0, b.0), b.1)

  entries_to_break_range : {bytes rest : List ℕ} {parts : Parts} → EntriesToBreak bytes parts rest → AreBytes bytes → AreInRange parts × AreBytes rest
  entries_to_break_range entries_end h = (tt, h.1)
  entries_to_break_range (entries_go_on i v s) h =
      let a = item_range i h in let b = item_range v a.1 in let c = entries_to_break_range s b.1 in ((tt, a.0, (tt, b.0, c.0)), c.1)

pub item_is_real : (bytes : List ℕ) (tree : Tree) → AreBytes bytes → IsItemOf bytes tree → IsReal tree
item_is_real bytes tree h i = ((item_is_read bytes tree i).1.0, (item_range i h).0)
