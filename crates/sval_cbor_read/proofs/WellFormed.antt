-- Each item is well-formed, and what is well-formed has one rest.
use Rattle.std.specs.Prelude.{◌≡◌, ℕ, List, ◌∷◌, Option, Some, None, refl}
use Rattle.std.proofs.Common.{arith}
use Rattle.sval_core.specs.Trees.{Tree, Parts}
use Rattle.sval_cbor_read.specs.Items.{ItemHead, head, IsDefiniteString, string, ArePieces, break, piece, IsByteString, definite, in_pieces, IsItem, by_head, bytes_in_pieces, texts_in_pieces, seq_to_break, map_to_break, falsehood, truth, null, IsBody, unsigned, negative, binary, text, seq, map, big, negative_big, tagged, AreItems, no_items, an_item, AreEntries, no_pairs, a_pair, ItemsToBreak, items_end, items_go_on, EntriesToBreak, entries_end, entries_go_on}
use Rattle.sval_cbor_read.specs.WellFormed.{IsStringOf, string_bytes, AreChunksOf, chunks_break, chunk_before, IsWellFormed, headed, simple_or_float, byte_chunks, text_chunks, array_to_break, IsContent, unsigned_integer, negative_integer, byte_string, text_string, array_of, map_of, tagged_item, HasItems, items_came, items_end_with_break, item_of, item_before_break, HasPairs, pairs_came, pairs_end_with_break, pair_of, pair_before_break}
use Rattle.sval_cbor_read.specs.WellFormed as well
use Rattle.sval_cbor_read.proofs.OneTree.{no_head_95, no_head_127, no_head_159, no_head_191, no_head_255, head_244, head_245, head_246, same_heads}

-- ---- one rest

pub one_string_rest : {major : ℕ} {bytes rest last : List ℕ} → IsStringOf major bytes rest → IsStringOf major bytes last → rest ≡ last
one_string_rest (string_bytes e h) (string_bytes f k) = cc

pub no_string_begins_255 : {major : ℕ} {bytes rest : List ℕ} → IsStringOf major (255 ∷ bytes) rest → ⊥
no_string_begins_255 (string_bytes e h) = no_head_255 _ e

pub moved_chunks : {major : ℕ} {bytes next rest : List ℕ} → next ≡ bytes → AreChunksOf major bytes rest → AreChunksOf major next rest
moved_chunks e p = rw e p

pub one_rest_of_chunks : {major : ℕ} {bytes rest last : List ℕ} → AreChunksOf major bytes rest → AreChunksOf major bytes last → rest ≡ last
one_rest_of_chunks chunks_break chunks_break = refl
one_rest_of_chunks chunks_break (chunk_before s p) = absurd (no_string_begins_255 s)
one_rest_of_chunks (chunk_before s p) chunks_break = absurd (no_string_begins_255 s)
one_rest_of_chunks (chunk_before s p) (chunk_before t q) = one_rest_of_chunks p (moved_chunks (one_string_rest s t) q)

no_content_7 : {n : ℕ} {after rest : List ℕ} → IsContent 7 n after rest → ⊥
no_content_7 c = elim c [ ]

pub simple_content : {major n m : ℕ} {after other rest : List ℕ} {o : Option ItemHead} → o ≡ Some (head 7 m other) → o ≡ Some (head major n after) → IsContent major n after rest → ⊥
simple_content {major = major} e f c = let g : major ≡ 7 = cc in no_content_7 (rw g at c)

pub moved_content : {major number m n : ℕ} {after other rest : List ℕ} → (m ≡ major) × (n ≡ number) × (other ≡ after) → IsContent m n other rest → IsContent major number after rest
moved_content (e, f, g) c = rw (e, f, g) at c

pub no_break_is_well_formed : {bytes rest : List ℕ} → IsWellFormed (255 ∷ bytes) rest → ⊥
no_break_is_well_formed (headed e c) = no_head_255 _ e
no_break_is_well_formed (simple_or_float e s) = no_head_255 _ e

moved_well : {bytes next rest : List ℕ} → next ≡ bytes → IsWellFormed bytes rest → IsWellFormed next rest
moved_well e p = rw e p

moved_items : {left : Option ℕ} {bytes next rest : List ℕ} → next ≡ bytes → HasItems left bytes rest → HasItems left next rest
moved_items e p = rw e p

moved_pairs : {left : Option ℕ} {bytes next rest : List ℕ} → next ≡ bytes → HasPairs left bytes rest → HasPairs left next rest
moved_pairs e p = rw e p

same_simple : {m n : ℕ} {rest last : List ℕ} {o : Option ItemHead} → o ≡ Some (head 7 m rest) → o ≡ Some (head 7 n last) → rest ≡ last
same_simple e f = cc

mutual
  pub one_rest : {bytes rest last : List ℕ} → IsWellFormed bytes rest → IsWellFormed bytes last → rest ≡ last
  one_rest (headed e c) (headed f d) = one_rest_of_content c (moved_content (same_heads e f) d)
  one_rest (headed e c) (simple_or_float f s) = absurd (simple_content f e c)
  one_rest (headed e c) (byte_chunks p) = absurd (no_head_95 _ e)
  one_rest (headed e c) (text_chunks p) = absurd (no_head_127 _ e)
  one_rest (headed e c) (array_to_break p) = absurd (no_head_159 _ e)
  one_rest (headed e c) (well.map_to_break p) = absurd (no_head_191 _ e)
  one_rest (simple_or_float e s) (headed f d) = absurd (simple_content e f d)
  one_rest (simple_or_float e s) (simple_or_float f t) = same_simple e f
  one_rest (simple_or_float e s) (byte_chunks p) = absurd (no_head_95 _ e)
  one_rest (simple_or_float e s) (text_chunks p) = absurd (no_head_127 _ e)
  one_rest (simple_or_float e s) (array_to_break p) = absurd (no_head_159 _ e)
  one_rest (simple_or_float e s) (well.map_to_break p) = absurd (no_head_191 _ e)
  one_rest (byte_chunks p) (headed e c) = absurd (no_head_95 _ e)
  one_rest (byte_chunks p) (simple_or_float e s) = absurd (no_head_95 _ e)
  one_rest (byte_chunks p) (byte_chunks q) = one_rest_of_chunks p q
  one_rest (text_chunks p) (headed e c) = absurd (no_head_127 _ e)
  one_rest (text_chunks p) (simple_or_float e s) = absurd (no_head_127 _ e)
  one_rest (text_chunks p) (text_chunks q) = one_rest_of_chunks p q
  one_rest (array_to_break p) (headed e c) = absurd (no_head_159 _ e)
  one_rest (array_to_break p) (simple_or_float e s) = absurd (no_head_159 _ e)
  one_rest (array_to_break p) (array_to_break q) = one_rest_of_items p q
  one_rest (well.map_to_break p) (headed e c) = absurd (no_head_191 _ e)
  one_rest (well.map_to_break p) (simple_or_float e s) = absurd (no_head_191 _ e)
  one_rest (well.map_to_break p) (well.map_to_break q) = one_rest_of_pairs p q

  one_rest_of_content : {major n : ℕ} {after rest last : List ℕ} → IsContent major n after rest → IsContent major n after last → rest ≡ last
  one_rest_of_content unsigned_integer unsigned_integer = refl
  one_rest_of_content negative_integer negative_integer = refl
  one_rest_of_content (byte_string h) (byte_string k) = refl
  one_rest_of_content (text_string h) (text_string k) = refl
  one_rest_of_content (array_of p) (array_of q) = one_rest_of_items p q
  one_rest_of_content (map_of p) (map_of q) = one_rest_of_pairs p q
  one_rest_of_content (tagged_item p) (tagged_item q) = one_rest p q

  one_rest_of_items : {left : Option ℕ} {bytes rest last : List ℕ} → HasItems left bytes rest → HasItems left bytes last → rest ≡ last
  one_rest_of_items items_came items_came = refl
  one_rest_of_items items_end_with_break items_end_with_break = refl
  one_rest_of_items items_end_with_break (item_before_break i p) = absurd (no_break_is_well_formed i)
  one_rest_of_items (item_of i p) (item_of j q) = one_rest_of_items p (moved_items (one_rest i j) q)
  one_rest_of_items (item_before_break i p) items_end_with_break = absurd (no_break_is_well_formed i)
  one_rest_of_items (item_before_break i p) (item_before_break j q) = one_rest_of_items p (moved_items (one_rest i j) q)

  one_rest_of_pairs : {left : Option ℕ} {bytes rest last : List ℕ} → HasPairs left bytes rest → HasPairs left bytes last → rest ≡ last
  one_rest_of_pairs pairs_came pairs_came = refl
  one_rest_of_pairs pairs_end_with_break pairs_end_with_break = refl
  one_rest_of_pairs pairs_end_with_break (pair_before_break k v p) = absurd (no_break_is_well_formed k)
  one_rest_of_pairs (pair_of k v p) (pair_of l w q) = one_rest_of_pairs p (moved_pairs (one_rest v (moved_well (one_rest k l) w)) q)
  one_rest_of_pairs (pair_before_break k v p) pairs_end_with_break = absurd (no_break_is_well_formed k)
  one_rest_of_pairs (pair_before_break k v p) (pair_before_break l w q) = one_rest_of_pairs p (moved_pairs (one_rest v (moved_well (one_rest k l) w)) q)

pub well_formed_has_one_rest : (bytes rest last : List ℕ) → IsWellFormed bytes rest → IsWellFormed bytes last → rest ≡ last
well_formed_has_one_rest bytes rest last i j = one_rest i j

-- ---- items of the profile

string_is_well : {major : ℕ} {bytes content rest : List ℕ} → IsDefiniteString major bytes content rest → IsStringOf major bytes rest
string_is_well (string e h k) = string_bytes e h

pieces_are_well : {major : ℕ} {bytes content rest : List ℕ} → ArePieces major bytes content rest → AreChunksOf major bytes rest
pieces_are_well break = chunks_break
pieces_are_well (piece s p) = chunk_before (string_is_well s) (pieces_are_well p)

byte_string_is_well : {bytes content rest : List ℕ} → IsByteString bytes content rest → IsWellFormed bytes rest
byte_string_is_well (definite (string e h k)) = headed e (byte_string h)
byte_string_is_well (in_pieces p) = byte_chunks (pieces_are_well p)

mutual
  item_is_well : {bytes rest : List ℕ} {tree : Tree} → IsItem bytes tree rest → IsWellFormed bytes rest
  item_is_well (by_head e b) = headed e (body_is_well b)
  item_is_well (bytes_in_pieces p) = byte_chunks (pieces_are_well p)
  item_is_well (texts_in_pieces p) = text_chunks (pieces_are_well p)
  item_is_well (seq_to_break s) = array_to_break (items_to_break_are_well s)
  item_is_well (map_to_break s) = well.map_to_break (entries_to_break_are_well s)
  item_is_well falsehood = simple_or_float (head_244 _) (λ e. omega arith)
  item_is_well truth = simple_or_float (head_245 _) (λ e. omega arith)
  item_is_well null = simple_or_float (head_246 _) (λ e. omega arith)

  body_is_well : {major n : ℕ} {after rest : List ℕ} {tree : Tree} → IsBody major n after tree rest → IsContent major n after rest
  body_is_well unsigned = unsigned_integer
  body_is_well negative = negative_integer
  body_is_well (binary h) = byte_string h
  body_is_well (text h u) = text_string h
  body_is_well (seq s) = array_of (items_are_well s)
  body_is_well (map s) = map_of (entries_are_well s)
  body_is_well (big s h) = tagged_item (byte_string_is_well s)
  body_is_well (negative_big s h) = tagged_item (byte_string_is_well s)
  body_is_well (tagged k l i) = tagged_item (item_is_well i)

  items_are_well : {n : ℕ} {bytes rest : List ℕ} {parts : Parts} → AreItems n bytes parts rest → HasItems (Some n) bytes rest
  items_are_well no_items = items_came
  items_are_well (an_item i s) = item_of (item_is_well i) (items_are_well s)

  entries_are_well : {n : ℕ} {bytes rest : List ℕ} {parts : Parts} → AreEntries n bytes parts rest → HasPairs (Some n) bytes rest
  entries_are_well no_pairs = pairs_came
  entries_are_well (a_pair i v s) = pair_of (item_is_well i) (item_is_well v) (entries_are_well s)

  items_to_break_are_well : {bytes rest : List ℕ} {parts : Parts} → ItemsToBreak bytes parts rest → HasItems None bytes rest
  items_to_break_are_well items_end = items_end_with_break
  items_to_break_are_well (items_go_on i s) = item_before_break (item_is_well i) (items_to_break_are_well s)

  entries_to_break_are_well : {bytes rest : List ℕ} {parts : Parts} → EntriesToBreak bytes parts rest → HasPairs None bytes rest
  entries_to_break_are_well entries_end = pairs_end_with_break
  entries_to_break_are_well (entries_go_on i v s) = pair_before_break (item_is_well i) (item_is_well v) (entries_to_break_are_well s)

pub item_is_well_formed : (bytes rest : List ℕ) (tree : Tree) → IsItem bytes tree rest → IsWellFormed bytes rest
item_is_well_formed bytes rest tree i = item_is_well i
