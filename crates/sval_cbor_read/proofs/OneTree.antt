-- No bytes are an item of two trees.
use Rattle.std.specs.Prelude.{◌≡◌, ℕ, List, ◌∷◌, Option, Some, refl, pos, negsuc}
use Rattle.std.proofs.Common.{ap}
use Rattle.sval_label.specs.Calls.{U128, I128, Seq, Map, Item, Key, Value}
use Rattle.sval_core.specs.Trees.{Tree, Int, Text, Binary, Container, Parts, part}
use Rattle.sval_cbor_read.specs.Items.{ItemHead, head, head_at_front, big_endian, IsDefiniteString, string, ArePieces, break, piece, IsByteString, definite, in_pieces, IsItem, by_head, bytes_in_pieces, texts_in_pieces, seq_to_break, map_to_break, falsehood, truth, null, IsBody, unsigned, negative, binary, text, seq, map, big, negative_big, tagged, AreItems, no_items, an_item, AreEntries, no_pairs, a_pair, ItemsToBreak, items_end, items_go_on, EntriesToBreak, entries_end, entries_go_on}

-- the first bytes of what stands up to a break, and the break itself, begin no head
pub no_head_95 : (bytes : List ℕ) {h : ItemHead} → head_at_front (95 ∷ bytes) ≡ Some h → ⊥
unfolding head_at_front
no_head_95 bytes e = cc e

pub no_head_127 : (bytes : List ℕ) {h : ItemHead} → head_at_front (127 ∷ bytes) ≡ Some h → ⊥
unfolding head_at_front
no_head_127 bytes e = cc e

pub no_head_159 : (bytes : List ℕ) {h : ItemHead} → head_at_front (159 ∷ bytes) ≡ Some h → ⊥
unfolding head_at_front
no_head_159 bytes e = cc e

pub no_head_191 : (bytes : List ℕ) {h : ItemHead} → head_at_front (191 ∷ bytes) ≡ Some h → ⊥
unfolding head_at_front
no_head_191 bytes e = cc e

pub no_head_255 : (bytes : List ℕ) {h : ItemHead} → head_at_front (255 ∷ bytes) ≡ Some h → ⊥
unfolding head_at_front
no_head_255 bytes e = cc e

pub head_244 : (bytes : List ℕ) → head_at_front (244 ∷ bytes) ≡ Some (head 7 20 bytes)
unfolding head_at_front
head_244 bytes = refl

pub head_245 : (bytes : List ℕ) → head_at_front (245 ∷ bytes) ≡ Some (head 7 21 bytes)
unfolding head_at_front
head_245 bytes = refl

pub head_246 : (bytes : List ℕ) → head_at_front (246 ∷ bytes) ≡ Some (head 7 22 bytes)
unfolding head_at_front
head_246 bytes = refl

pub same_heads : {major number m n : ℕ} {after other : List ℕ} {o : Option ItemHead} → o ≡ Some (head major number after) → o ≡ Some (head m n other)
    → (m ≡ major) × (n ≡ number) × (other ≡ after)
same_heads e f = (cc, cc, cc)

pub no_string_95 : {major : ℕ} {bytes content rest : List ℕ} → IsDefiniteString major (95 ∷ bytes) content rest → ⊥
no_string_95 (string e h k) = no_head_95 _ e

pub no_string_255 : {major : ℕ} {bytes content rest : List ℕ} → IsDefiniteString major (255 ∷ bytes) content rest → ⊥
no_string_255 (string e h k) = no_head_255 _ e

pub one_string : {major : ℕ} {bytes content rest other last : List ℕ} → IsDefiniteString major bytes content rest → IsDefiniteString major bytes other last → (content ≡ other) × (rest ≡ last)
one_string (string e h k) (string f i l) = (cc, cc)

moved_pieces : {major : ℕ} {bytes next content rest : List ℕ} → next ≡ bytes → ArePieces major bytes content rest → ArePieces major next content rest
moved_pieces e p = rw e p

some_pieces : {major : ℕ} {bytes content rest other last : List ℕ} → ArePieces major bytes content rest → ArePieces major bytes other last → (content ≡ other) × (rest ≡ last)
some_pieces break break = (refl, refl)
some_pieces break (piece s p) = absurd (no_string_255 s)
some_pieces (piece s p) break = absurd (no_string_255 s)
some_pieces (piece s p) (piece t q) =
    let e = one_string s t in
    let f = some_pieces p (moved_pieces e.1 q) in
    (cc, f.1)

pub one_byte_string : {bytes content rest other last : List ℕ} → IsByteString bytes content rest → IsByteString bytes other last → (content ≡ other) × (rest ≡ last)
one_byte_string (definite s) (definite t) = one_string s t
one_byte_string (definite s) (in_pieces p) = absurd (no_string_95 s)
one_byte_string (in_pieces p) (definite s) = absurd (no_string_95 s)
one_byte_string (in_pieces p) (in_pieces q) = some_pieces p q

-- ---- the first byte of an item

no_body : {n : ℕ} {after rest : List ℕ} {tree : Tree} → IsBody 7 n after tree rest → ⊥
no_body b = elim b [ ]

pub simple_body : {major n m : ℕ} {after other rest : List ℕ} {tree : Tree} {o : Option ItemHead} → o ≡ Some (head 7 m other) → o ≡ Some (head major n after) → IsBody major n after tree rest → ⊥
simple_body {major = major} e f b = let g : major ≡ 7 = cc in no_body (rw g at b)

pub break_item : {bytes rest : List ℕ} {tree : Tree} → IsItem (255 ∷ bytes) tree rest → ⊥
break_item (by_head e b) = no_head_255 _ e

pub moved_body : {major number m n : ℕ} {after other rest : List ℕ} {tree : Tree} → (m ≡ major) × (n ≡ number) × (other ≡ after) → IsBody m n other tree rest → IsBody major number after tree rest
moved_body (e, f, g) b = rw (e, f, g) at b

moved_items : {n : ℕ} {bytes next rest : List ℕ} {trees : Parts} → next ≡ bytes → AreItems n bytes trees rest → AreItems n next trees rest
moved_items e p = rw e p

moved_item : {bytes next rest : List ℕ} {tree : Tree} → next ≡ bytes → IsItem bytes tree rest → IsItem next tree rest
moved_item e p = rw e p

moved_entries : {n : ℕ} {bytes next rest : List ℕ} {entries : Parts} → next ≡ bytes → AreEntries n bytes entries rest → AreEntries n next entries rest
moved_entries e p = rw e p

moved_to_break : {bytes next rest : List ℕ} {trees : Parts} → next ≡ bytes → ItemsToBreak bytes trees rest → ItemsToBreak next trees rest
moved_to_break e p = rw e p

moved_entries_to_break : {bytes next rest : List ℕ} {entries : Parts} → next ≡ bytes → EntriesToBreak bytes entries rest → EntriesToBreak next entries rest
moved_entries_to_break e p = rw e p

same_trees : {tree other : Tree} {trees others : Parts} → tree ≡ other → trees ≡ others → part Item tree trees ≡ part Item other others
same_trees e f = cc

same_entries : {key value other_key other : Tree} {entries others : Parts} → key ≡ other_key → value ≡ other → entries ≡ others
    → part Key key (part Value value entries) ≡ part Key other_key (part Value other others)
same_entries e f g = cc

mutual
  pub one_item : {bytes rest last : List ℕ} {tree other : Tree} → IsItem bytes tree rest → IsItem bytes other last → (tree ≡ other) × (rest ≡ last)
  one_item (by_head e b) (by_head f c) = one_body b (moved_body (same_heads e f) c)
  one_item (by_head e b) (bytes_in_pieces p) = absurd (no_head_95 _ e)
  one_item (by_head e b) (texts_in_pieces p) = absurd (no_head_127 _ e)
  one_item (by_head e b) (seq_to_break s) = absurd (no_head_159 _ e)
  one_item (by_head e b) (map_to_break s) = absurd (no_head_191 _ e)
  one_item (by_head e b) falsehood = absurd (simple_body (head_244 _) e b)
  one_item (by_head e b) truth = absurd (simple_body (head_245 _) e b)
  one_item (by_head e b) null = absurd (simple_body (head_246 _) e b)
  one_item (bytes_in_pieces p) (by_head e b) = absurd (no_head_95 _ e)
  one_item (bytes_in_pieces p) (bytes_in_pieces q) = let e = some_pieces p q in (ap Binary e.0, e.1)
  one_item (texts_in_pieces p) (by_head e b) = absurd (no_head_127 _ e)
  one_item (texts_in_pieces p) (texts_in_pieces q) = let e = some_pieces p q in (ap Text e.0, e.1)
  one_item (seq_to_break s) (by_head e b) = absurd (no_head_159 _ e)
  one_item (seq_to_break s) (seq_to_break t) = let e = one_to_break s t in (ap (Container Seq) e.0, e.1)
  one_item (map_to_break s) (by_head e b) = absurd (no_head_191 _ e)
  one_item (map_to_break s) (map_to_break t) = let e = one_entries_to_break s t in (ap (Container Map) e.0, e.1)
  one_item falsehood (by_head e b) = absurd (simple_body (head_244 _) e b)
  one_item falsehood falsehood = (refl, refl)
  one_item truth (by_head e b) = absurd (simple_body (head_245 _) e b)
  one_item truth truth = (refl, refl)
  one_item null (by_head e b) = absurd (simple_body (head_246 _) e b)
  one_item null null = (refl, refl)

  one_body : {major n : ℕ} {after rest last : List ℕ} {tree other : Tree} → IsBody major n after tree rest → IsBody major n after other last → (tree ≡ other) × (rest ≡ last)
  one_body unsigned unsigned = (refl, refl)
  one_body negative negative = (refl, refl)
  one_body (binary h) (binary k) = (refl, refl)
  one_body (text h u) (text k v) = (refl, refl)
  one_body (seq s) (seq t) = let e = one_row s t in (ap (Container Seq) e.0, e.1)
  one_body (map s) (map t) = let e = one_list s t in (ap (Container Map) e.0, e.1)
  one_body (big s h) (big t k) = let e = one_byte_string s t in (ap (λ content. Int U128 (pos (big_endian content))) e.0, e.1)
  one_body (big s h) (tagged k l i) = absurd (k refl)
  one_body (negative_big s h) (negative_big t k) = let e = one_byte_string s t in (ap (λ content. Int I128 (negsuc (big_endian content))) e.0, e.1)
  one_body (negative_big s h) (tagged k l i) = absurd (l refl)
  one_body (tagged k l i) (big s h) = absurd (k refl)
  one_body (tagged k l i) (negative_big s h) = absurd (l refl)
  one_body (tagged k l i) (tagged m n j) = one_item i j

  one_row : {n : ℕ} {bytes rest last : List ℕ} {trees others : Parts} → AreItems n bytes trees rest → AreItems n bytes others last → (trees ≡ others) × (rest ≡ last)
  one_row no_items no_items = (refl, refl)
  one_row (an_item i s) (an_item j t) = let e = one_item i j in let f = one_row s (moved_items e.1 t) in (same_trees e.0 f.0, f.1)

  one_list : {n : ℕ} {bytes rest last : List ℕ} {entries others : Parts} → AreEntries n bytes entries rest → AreEntries n bytes others last → (entries ≡ others) × (rest ≡ last)
  one_list no_pairs no_pairs = (refl, refl)
  one_list (a_pair i v s) (a_pair j w t) =
      let e = one_item i j in
      let f = one_item v (moved_item e.1 w) in
      let g = one_list s (moved_entries f.1 t) in
      (same_entries e.0 f.0 g.0, g.1)

  one_to_break : {bytes rest last : List ℕ} {trees others : Parts} → ItemsToBreak bytes trees rest → ItemsToBreak bytes others last → (trees ≡ others) × (rest ≡ last)
  one_to_break items_end items_end = (refl, refl)
  one_to_break items_end (items_go_on i s) = absurd (break_item i)
  one_to_break (items_go_on i s) items_end = absurd (break_item i)
  one_to_break (items_go_on i s) (items_go_on j t) = let e = one_item i j in let f = one_to_break s (moved_to_break e.1 t) in (same_trees e.0 f.0, f.1)

  one_entries_to_break : {bytes rest last : List ℕ} {entries others : Parts} → EntriesToBreak bytes entries rest → EntriesToBreak bytes others last → (entries ≡ others) × (rest ≡ last)
  one_entries_to_break entries_end entries_end = (refl, refl)
  one_entries_to_break entries_end (entries_go_on i v s) = absurd (break_item i)
  one_entries_to_break (entries_go_on i v s) entries_end = absurd (break_item i)
  one_entries_to_break (entries_go_on i v s) (entries_go_on j w t) =
      let e = one_item i j in
      let f = one_item v (moved_item e.1 w) in
      let g = one_entries_to_break s (moved_entries_to_break f.1 t) in
      (same_entries e.0 f.0 g.0, g.1)

pub item_has_one_tree : (bytes rest last : List ℕ) (tree other : Tree) → IsItem bytes tree rest → IsItem bytes other last → (tree ≡ other) × (rest ≡ last)
item_has_one_tree bytes rest last tree other i j = one_item i j
