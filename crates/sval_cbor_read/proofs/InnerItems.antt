-- Where a call of a document begins an item, the calls from there on are those of an item of the document, and what follows it.
use Rattle.std.specs.Prelude.{◌≡◌, ℕ, zero, suc, ◌⊎◌, true, List, [], ◌∷◌, ◌++◌, map, drop}
use Rattle.std.proofs.Common.{sym, ap, subst, ◌∙◌, inl, inr, append_assoc}
use Rattle.sval_label.specs.Calls.{Call}
use Rattle.sval_label.specs.Calls as calls
use Rattle.sval_core.specs.Trees.{Tree, Parts}
use Rattle.sval_cbor_read.specs.declared.node.Node.{Node}
use Rattle.sval_cbor_read.specs.Items.{IsItem, by_head, bytes_in_pieces, texts_in_pieces, seq_to_break, map_to_break, falsehood, truth, null, IsBody, unsigned, negative, binary, text, seq, map as map_body, big, negative_big, tagged, AreItems, no_items, an_item, AreEntries, no_pairs, a_pair, ItemsToBreak, items_end, items_go_on, EntriesToBreak, entries_end, entries_go_on}
use Rattle.sval_cbor_read.specs.Document.{pieces_of, cbor_calls, body_calls, items_calls, entries_calls, items_to_break_calls, entries_to_break_calls}
use Rattle.sval_cbor_read.specs.CallSpans.{begins_item, FirstBeginsItem}
use Rattle.sval_cbor_read.specs.CborParts.{EndDocument}
use Rattle.sval_cbor_read.specs.SeenNodes.{cbor_node_calls, streamed_items}

-- ---- last calls of others

-- these are the last of all
record AreLast (all made : List Call) : Type 0 where
  before : List Call
  same : all ≡ before ++ made

-- calls that begin with those of an item
pub record StartItem (made : List Call) : Type 0 where
  pub bytes : List ℕ
  pub rest : List ℕ
  pub tree : Tree
  pub item : IsItem bytes tree rest
  pub more : List Call
  pub same : made ≡ cbor_calls item more

behind_call : List Call → List Call
behind_call [] = []
behind_call (call ∷ more) = more

-- the last calls of a whole and of more: all of them, from an item in the whole on, or the last of more
data AreFrom (whole more made : List Call) : Type 0 where
  all_calls : made ≡ whole → AreFrom whole more made
  inner_calls : StartItem made → AreFrom whole more made
  later_calls : AreLast more made → AreFrom whole more made

one_behind : {call : Call} {all made : List Call} (before : List Call) (x : Call) → call ∷ all ≡ (x ∷ before) ++ made → AreLast all made
unfolding behind_call
one_behind before x e = record { before = before; same = ap behind_call e }

-- a call that begins no item comes before them
pass : {all made : List Call} (call : Call) → (begins_item call → ⊥) → FirstBeginsItem made → AreLast (call ∷ all) made → AreLast all made
pass {all = all} {made = made} call n f l = by_front l.before l.same
  where
    by_front : (before : List Call) → call ∷ all ≡ before ++ made → AreLast all made
    by_front [] e = absurd (n (subst FirstBeginsItem (sym e) f))
    by_front (x ∷ before) e = one_behind before x e

-- the first call of a whole, and those within
opened : {call : Call} {inside more made : List Call} → (AreLast inside made → StartItem made ⊎ AreLast more made) → AreLast (call ∷ inside) made → AreFrom (call ∷ inside) more made
opened {call = call} {inside = inside} {more = more} {made = made} go l = by_front l.before l.same
  where
    within : StartItem made ⊎ AreLast more made → AreFrom (call ∷ inside) more made
    within (inl s) = inner_calls s
    within (inr m) = later_calls m

    by_front : (before : List Call) → call ∷ inside ≡ before ++ made → AreFrom (call ∷ inside) more made
    by_front [] e = all_calls (sym e)
    by_front (x ∷ before) e = within (go (one_behind before x e))

item_then : {bytes rest : List ℕ} {tree : Tree} (i : IsItem bytes tree rest) (more : List Call) {made : List Call} {A : Type 0} → AreFrom (cbor_calls i more) more made → (StartItem made → A) → (AreLast more made → A) → A
item_then i more (all_calls e) here go = here (record { bytes = _; rest = _; tree = _; item = i; more = more; same = e })
item_then i more (inner_calls s) here go = here s
item_then i more (later_calls l) here go = go l

-- ---- chunks

no_text_chunk : (pieces : List (List ℕ)) (more : List Call) {made : List Call} → FirstBeginsItem made → AreLast (map (Call.TextFragment true) pieces ++ (Call.TextEnd ∷ more)) made → AreLast more made
no_text_chunk [] more f l = pass Call.TextEnd (λ x. x) f l
no_text_chunk (piece ∷ pieces) more f l = no_text_chunk pieces more f (pass (Call.TextFragment true piece) (λ x. x) f l)

no_byte_chunk : (pieces : List (List ℕ)) (more : List Call) {made : List Call} → FirstBeginsItem made → AreLast (map (Call.BinaryFragment true) pieces ++ (Call.BinaryEnd ∷ more)) made → AreLast more made
no_byte_chunk [] more f l = pass Call.BinaryEnd (λ x. x) f l
no_byte_chunk (piece ∷ pieces) more f l = no_byte_chunk pieces more f (pass (Call.BinaryFragment true piece) (λ x. x) f l)

ends_with : {more made : List Call} (head : calls.Head) → FirstBeginsItem made → StartItem made ⊎ AreLast (Call.End head ∷ more) made → StartItem made ⊎ AreLast more made
ends_with head f (inl s) = inl s
ends_with head f (inr l) = inr (pass (Call.End head) (λ x. x) f l)

-- ---- items

mutual
  item_from : {bytes rest : List ℕ} {tree : Tree} (i : IsItem bytes tree rest) (more : List Call) {made : List Call} → FirstBeginsItem made → AreLast (cbor_calls i more) made → AreFrom (cbor_calls i more) more made
  item_from (by_head e b) more f l = body_from b more f l
  item_from (bytes_in_pieces p) more f l = opened (λ m. inr (no_byte_chunk (pieces_of p) more f m)) l
  item_from (texts_in_pieces p) more f l = opened (λ m. inr (no_text_chunk (pieces_of p) more f m)) l
  item_from (seq_to_break s) more f l = opened (λ m. ends_with calls.Seq f (to_break_from s (Call.End calls.Seq ∷ more) f m)) l
  item_from (map_to_break s) more f l = opened (λ m. ends_with calls.Map f (pairs_to_break_from s (Call.End calls.Map ∷ more) f m)) l
  item_from falsehood more f l = opened inr l
  item_from truth more f l = opened inr l
  item_from null more f l = opened inr l

  body_from : {major n : ℕ} {after rest : List ℕ} {tree : Tree} (b : IsBody major n after tree rest) (more : List Call) {made : List Call} → FirstBeginsItem made → AreLast (body_calls b more) made → AreFrom (body_calls b more) more made
  body_from unsigned more f l = opened inr l
  body_from negative more f l = opened inr l
  body_from (binary w) more f l = opened (λ m. inr (pass Call.BinaryEnd (λ x. x) f (pass (Call.BinaryFragment true _) (λ x. x) f m))) l
  body_from (text w u) more f l = opened (λ m. inr (pass Call.TextEnd (λ x. x) f (pass (Call.TextFragment true _) (λ x. x) f m))) l
  body_from (seq s) more f l = opened (λ m. ends_with calls.Seq f (items_from s (Call.End calls.Seq ∷ more) f m)) l
  body_from (map_body s) more f l = opened (λ m. ends_with calls.Map f (pairs_from s (Call.End calls.Map ∷ more) f m)) l
  body_from (big s h) more f l = opened inr l
  body_from (negative_big s h) more f l = opened inr l
  body_from (tagged h k i) more f l = item_from i more f l

  items_from : {n : ℕ} {bytes rest : List ℕ} {parts : Parts} (s : AreItems n bytes parts rest) (more : List Call) {made : List Call} → FirstBeginsItem made → AreLast (items_calls s more) made → StartItem made ⊎ AreLast more made
  items_from no_items more f l = inr l
  items_from (an_item i s) more f l =
      let left : List Call = Call.PartEnd calls.Item ∷ items_calls s more in
      item_then i left (item_from i left f (pass (Call.PartBegin calls.Item) (λ x. x) f l)) inl (λ m. items_from s more f (pass (Call.PartEnd calls.Item) (λ x. x) f m))

  pairs_from : {n : ℕ} {bytes rest : List ℕ} {parts : Parts} (s : AreEntries n bytes parts rest) (more : List Call) {made : List Call} → FirstBeginsItem made → AreLast (entries_calls s more) made → StartItem made ⊎ AreLast more made
  pairs_from no_pairs more f l = inr l
  pairs_from (a_pair i v s) more f l =
      let last : List Call = Call.PartEnd calls.Value ∷ entries_calls s more in
      let left : List Call = Call.PartEnd calls.Key ∷ (Call.PartBegin calls.Value ∷ cbor_calls v last) in
      item_then i left (item_from i left f (pass (Call.PartBegin calls.Key) (λ x. x) f l)) inl
      (λ m. item_then v last (item_from v last f (pass (Call.PartBegin calls.Value) (λ x. x) f (pass (Call.PartEnd calls.Key) (λ x. x) f m))) inl
      (λ k. pairs_from s more f (pass (Call.PartEnd calls.Value) (λ x. x) f k)))

  to_break_from : {bytes rest : List ℕ} {parts : Parts} (s : ItemsToBreak bytes parts rest) (more : List Call) {made : List Call} → FirstBeginsItem made → AreLast (items_to_break_calls s more) made → StartItem made ⊎ AreLast more made
  to_break_from items_end more f l = inr l
  to_break_from (items_go_on i s) more f l =
      let left : List Call = Call.PartEnd calls.Item ∷ items_to_break_calls s more in
      item_then i left (item_from i left f (pass (Call.PartBegin calls.Item) (λ x. x) f l)) inl (λ m. to_break_from s more f (pass (Call.PartEnd calls.Item) (λ x. x) f m))

  pairs_to_break_from : {bytes rest : List ℕ} {parts : Parts} (s : EntriesToBreak bytes parts rest) (more : List Call) {made : List Call} → FirstBeginsItem made → AreLast (entries_to_break_calls s more) made
      → StartItem made ⊎ AreLast more made
  pairs_to_break_from entries_end more f l = inr l
  pairs_to_break_from (entries_go_on i v s) more f l =
      let last : List Call = Call.PartEnd calls.Value ∷ entries_to_break_calls s more in
      let left : List Call = Call.PartEnd calls.Key ∷ (Call.PartBegin calls.Value ∷ cbor_calls v last) in
      item_then i left (item_from i left f (pass (Call.PartBegin calls.Key) (λ x. x) f l)) inl
      (λ m. item_then v last (item_from v last f (pass (Call.PartBegin calls.Value) (λ x. x) f (pass (Call.PartEnd calls.Key) (λ x. x) f m))) inl
      (λ k. pairs_to_break_from s more f (pass (Call.PartEnd calls.Value) (λ x. x) f k)))

-- ---- documents

-- nothing comes behind the last call
nothing_last : {made : List Call} {A : Type 0} → FirstBeginsItem made → AreLast [] made → A
nothing_last {made = made} f l = by_front l.before made f l.same
  where
    by_front : {A : Type 0} (before made : List Call) → FirstBeginsItem made → [] ≡ before ++ made → A
    by_front [] [] f e = absurd f
    by_front [] (call ∷ made) f e = absurd (cc e)
    by_front (x ∷ before) made f e = absurd (cc e)

-- where the last calls of a document begin an item, that item's come first
pub starts_item : (made : List Call) → FirstBeginsItem made → EndDocument made → StartItem made
starts_item made f d = item_then d.item [] (item_from d.item [] f (record { before = d.before; same = d.same })) (λ s. s) (λ l. nothing_last f l)

-- all calls of a document
pub ends_all : {bytes rest : List ℕ} {tree : Tree} {made : List Call} (item : IsItem bytes tree rest) → made ≡ cbor_calls item [] → EndDocument made
ends_all item e = record { bytes = _; rest = _; tree = _; item = item; before = []; same = sym e }

-- the last calls of the last calls
pub end_behind : (front made : List Call) → EndDocument (front ++ made) → EndDocument made
end_behind front made d = record { bytes = d.bytes; rest = d.rest; tree = d.tree; item = d.item; before = d.before ++ front; same = d.same ∙ sym (append_assoc d.before front made) }

-- the last nodes of those of a document
pub nodes_end_behind : (bytes : List ℕ) (nodes : List Node) (count : ℕ) → EndDocument (streamed_items bytes nodes) → EndDocument (streamed_items bytes (drop count nodes))
nodes_end_behind bytes nodes zero d = d
nodes_end_behind bytes [] (suc count) d = d
nodes_end_behind bytes (n ∷ nodes) (suc count) d = nodes_end_behind bytes nodes count (end_behind (cbor_node_calls bytes n) (streamed_items bytes nodes) d)
