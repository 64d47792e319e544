-- What streaming an item of a document by itself knows at each node.
use Rattle.std.specs.Prelude.{◌≡◌, ℕ, zero, suc, ◌+◌, ◌-◌, ◌<◌, ◌≤◌, true, List, [], ◌∷◌, ◌++◌, length, drop, get_or, Result, Ok, Err, refl}
use Rattle.std.proofs.Common.{sym, ap, subst, ◌∙◌, arith, append_assoc, append-nil}
use Rattle.std.proofs.lemmas.Bool.{false≢true}
use Rattle.sval_label.specs.declared.error.Error.{Error}
use Rattle.sval_label.specs.Calls.{Call}
use Rattle.sval_core.specs.Law.{Standing, Law, Streams, Stops, Emits, then_emits}
use Rattle.sval_core.specs.Values.{makes}
use Rattle.sval_core.proofs.Emissions.{streams_then, stops_first, stops_later}
use Rattle.sval_cbor_read.specs.declared.node.Place as made_place
use Rattle.sval_cbor_read.specs.declared.node.Place.TheVariants as place
use Rattle.sval_cbor_read.specs.declared.node.Kind as made_kind
use Rattle.sval_cbor_read.specs.declared.node.Kind.TheVariants as kind
use Rattle.sval_cbor_read.specs.declared.node.Node.{Node}
use Rattle.sval_cbor_read.specs.CallSpans.{calls_while_open, until_closed, item_by_itself}
use Rattle.sval_cbor_read.specs.SeenNodes.{node_offset, item_place_begins, item_place_ends, item_begins_before, node_own_calls, item_ends_behind, cbor_node_calls, streamed_items, NodeBegins, NodeStands, NodesStand}
use Rattle.sval_cbor_read.specs.NodeSpans.{is_first, cbor_depth_behind}
use Rattle.sval_cbor_read.specs.SeenFound.{AreOfItem}
use Rattle.sval_cbor_read.proofs.CborNodes.{one_chunk}
use Rattle.sval_cbor_read.proofs.NodeStreams.{calls_at, here}
use Rattle.sval_cbor_read.proofs.PartItems.{by_itself_from}

-- ---- the calls of a node inside an item

one_less : (depth : ℕ) → depth ≡ suc depth - 1
one_less depth = omega arith

end_closes : (call : Call) (depth : ℕ) (more : List Call)
    → call ∷ calls_while_open depth (until_closed depth more) ≡ call ∷ calls_while_open (suc depth - 1) (until_closed (suc depth - 1) more)
end_closes call depth more = ap (λ d. call ∷ calls_while_open d (until_closed d more)) (one_less depth)

own_until : (k : made_kind.Kind) (bytes : List ℕ) (depth : ℕ) (more : List Call) → NodeBegins k bytes
    → until_closed (suc depth) (node_own_calls k bytes ++ more) ≡ node_own_calls k bytes ++ calls_while_open (cbor_depth_behind k (suc depth)) (until_closed (cbor_depth_behind k (suc depth)) more)
own_until kind.Item bytes depth more s = s.1.closed (suc depth) more
own_until kind.Big bytes depth more s = refl
own_until kind.NegativeBig bytes depth more s = refl
own_until kind.Begin bytes depth more s = s.1.opens (suc depth) more
own_until kind.TextPiece bytes depth more s = subst (λ made. until_closed (suc depth) (made ++ more) ≡ made ++ until_closed (suc depth) more) (sym (one_chunk 3 bytes s).is) refl
own_until kind.BinaryPiece bytes depth more s = subst (λ made. until_closed (suc depth) (made ++ more) ≡ made ++ until_closed (suc depth) more) (sym (one_chunk 2 bytes s).is) refl
own_until kind.EndText bytes depth more s = end_closes _ depth more
own_until kind.EndBinary bytes depth more s = end_closes _ depth more
own_until kind.EndSeq bytes depth more s = end_closes _ depth more
own_until kind.EndMap bytes depth more s = end_closes _ depth more

place_begins_until : (p : made_place.Place) (depth : ℕ) (more : List Call) → until_closed (suc depth) (item_place_begins p ++ more) ≡ item_place_begins p ++ until_closed (suc depth) more
place_begins_until place.Alone depth more = refl
place_begins_until place.Item depth more = refl
place_begins_until place.Key depth more = refl
place_begins_until place.Value depth more = refl

place_ends_until : (p : made_place.Place) (depth : ℕ) (more : List Call) → until_closed (suc depth) (item_place_ends p ++ more) ≡ item_place_ends p ++ until_closed (suc depth) more
place_ends_until place.Alone depth more = refl
place_ends_until place.Item depth more = refl
place_ends_until place.Key depth more = refl
place_ends_until place.Value depth more = refl

before_until : (k : made_kind.Kind) (p : made_place.Place) (depth : ℕ) (more : List Call) → until_closed (suc depth) (item_begins_before k p ++ more) ≡ item_begins_before k p ++ until_closed (suc depth) more
before_until kind.Item p depth more = place_begins_until p depth more
before_until kind.Big p depth more = place_begins_until p depth more
before_until kind.NegativeBig p depth more = place_begins_until p depth more
before_until kind.Begin p depth more = place_begins_until p depth more
before_until kind.TextPiece p depth more = refl
before_until kind.BinaryPiece p depth more = refl
before_until kind.EndText p depth more = refl
before_until kind.EndBinary p depth more = refl
before_until kind.EndSeq p depth more = refl
before_until kind.EndMap p depth more = refl

behind_until : (k : made_kind.Kind) (p : made_place.Place) (depth : ℕ) (more : List Call) → until_closed (suc depth) (item_ends_behind k p ++ more) ≡ item_ends_behind k p ++ until_closed (suc depth) more
behind_until kind.Item p depth more = place_ends_until p depth more
behind_until kind.Big p depth more = place_ends_until p depth more
behind_until kind.NegativeBig p depth more = place_ends_until p depth more
behind_until kind.Begin p depth more = refl
behind_until kind.TextPiece p depth more = refl
behind_until kind.BinaryPiece p depth more = refl
behind_until kind.EndText p depth more = place_ends_until p depth more
behind_until kind.EndBinary p depth more = place_ends_until p depth more
behind_until kind.EndSeq p depth more = place_ends_until p depth more
behind_until kind.EndMap p depth more = place_ends_until p depth more

-- a node opens one at most
pub depth_most : (k : made_kind.Kind) (depth : ℕ) → cbor_depth_behind k depth ≤ depth + 1
depth_most kind.Item depth = omega arith
depth_most kind.Big depth = omega arith
depth_most kind.NegativeBig depth = omega arith
depth_most kind.Begin depth = omega arith
depth_most kind.TextPiece depth = omega arith
depth_most kind.BinaryPiece depth = omega arith
depth_most kind.EndText depth = omega arith
depth_most kind.EndBinary depth = omega arith
depth_most kind.EndSeq depth = omega arith
depth_most kind.EndMap depth = omega arith

-- a node that closes the item begins no part
closing_before : (k : made_kind.Kind) (p : made_place.Place) (depth : ℕ) → cbor_depth_behind k (suc depth) ≡ 0 → item_begins_before k p ≡ []
closing_before kind.Item p depth e = absurd (omega arith)
closing_before kind.Big p depth e = absurd (omega arith)
closing_before kind.NegativeBig p depth e = absurd (omega arith)
closing_before kind.Begin p depth e = absurd (omega arith)
closing_before kind.TextPiece p depth e = refl
closing_before kind.BinaryPiece p depth e = refl
closing_before kind.EndText p depth e = refl
closing_before kind.EndBinary p depth e = refl
closing_before kind.EndSeq p depth e = refl
closing_before kind.EndMap p depth e = refl

module _ (bytes : List ℕ) (n : Node) (depth : ℕ) (more : List Call) (s : NodeStands bytes n) where
  node_until : until_closed (suc depth) (cbor_node_calls bytes n ++ more)
      ≡ item_begins_before n.kind n.place ++ (calls_at bytes n ++ calls_while_open (cbor_depth_behind n.kind (suc depth)) (until_closed (cbor_depth_behind n.kind (suc depth)) (item_ends_behind n.kind n.place ++ more)))
  node_until =
      let own : List Call = calls_at bytes n in
      let before : List Call = item_begins_before n.kind n.place in
      let ends : List Call = item_ends_behind n.kind n.place in
      ap (until_closed (suc depth)) (append_assoc before (own ++ ends) more ∙ ap (λ x. before ++ x) (append_assoc own ends more)) ∙ before_until n.kind n.place depth (own ++ (ends ++ more))
      ∙ ap (λ x. before ++ x) (own_until n.kind (drop (node_offset n) bytes) depth (ends ++ more) s)

  -- a node that leaves something open makes all its calls
  open_until : (left : ℕ) → cbor_depth_behind n.kind (suc depth) ≡ suc left → until_closed (suc depth) (cbor_node_calls bytes n ++ more) ≡ cbor_node_calls bytes n ++ until_closed (suc left) more
  open_until left e =
      let own : List Call = calls_at bytes n in
      let before : List Call = item_begins_before n.kind n.place in
      let ends : List Call = item_ends_behind n.kind n.place in
      node_until ∙ ap (λ d. before ++ (own ++ calls_while_open d (until_closed d (ends ++ more)))) e ∙ ap (λ x. before ++ (own ++ x)) (behind_until n.kind n.place left more)
      ∙ ap (λ x. before ++ x) (sym (append_assoc own ends (until_closed (suc left) more))) ∙ sym (append_assoc before (own ++ ends) (until_closed (suc left) more))

  -- one that closes the item makes its own
  closed_until : cbor_depth_behind n.kind (suc depth) ≡ 0 → until_closed (suc depth) (cbor_node_calls bytes n ++ more) ≡ calls_at bytes n
  closed_until e =
      let own : List Call = calls_at bytes n in
      let ends : List Call = item_ends_behind n.kind n.place in
      node_until ∙ ap (λ x. x ++ (own ++ calls_while_open (cbor_depth_behind n.kind (suc depth)) (until_closed (cbor_depth_behind n.kind (suc depth)) (ends ++ more)))) (closing_before n.kind n.place depth e)
      ∙ ap (λ d. own ++ calls_while_open d (until_closed d (ends ++ more))) e ∙ append-nil own

-- ---- node by node

-- some first calls of the whole were taken, and these nodes are left, with so many strings, arrays and maps open
pub record IsStreamedWithin {V : Type 0} (law : Law V) (old now : Standing V) (bytes : List ℕ) (whole : List Call) (depth : ℕ) (left : List Node) : Type 0 where
  pub done : List Call
  pub whole_is : whole ≡ done ++ until_closed depth (streamed_items bytes left)
  pub kept : NodesStand bytes left
  pub streams : Streams law old (makes done) now

pub within_start : {V : Type 0} {law : Law V} {old : Standing V} {bytes : List ℕ} (nodes : List Node) → NodesStand bytes nodes → IsStreamedWithin law old old bytes (until_closed 1 (streamed_items bytes nodes)) 1 nodes
within_start nodes k = record { done = []; whole_is = refl; kept = k; streams = record { willing = refl; ran = refl; faults = refl; wants = refl } }

pub within_all : {V : Type 0} {law : Law V} {old new : Standing V} {bytes : List ℕ} {whole : List Call} {depth : ℕ} {left : List Node} → IsStreamedWithin law old new bytes whole depth left → left ≡ [] → Streams law old (makes whole) new
within_all {law = law} {old = old} {new = new} {bytes = bytes} {depth = depth} s e =
    let whole_is = s.whole_is ∙ ap (λ left. s.done ++ until_closed depth (streamed_items bytes left)) e ∙ append-nil s.done in
    subst (λ calls. Streams law old (makes calls) new) (sym whole_is) s.streams

module _ {V : Type 0} {law : Law V} {old mid : Standing V} {bytes : List ℕ} {whole : List Call} (nodes : List Node) (i : ℕ) (d : Node) (depth : ℕ) (s : IsStreamedWithin law old mid bytes whole depth (drop i nodes)) (h : i < length nodes) where
  stand_here : NodesStand bytes (get_or nodes i d ∷ drop (i + 1) nodes)
  stand_here = subst (NodesStand bytes) (here nodes i d h) s.kept

  pub node_within : NodeStands bytes (get_or nodes i d)
  node_within = stand_here.0

  whole_here : whole ≡ s.done ++ until_closed depth (cbor_node_calls bytes (get_or nodes i d) ++ streamed_items bytes (drop (i + 1) nodes))
  whole_here = s.whole_is ∙ ap (λ left. s.done ++ until_closed depth (streamed_items bytes left)) (here nodes i d h)

  left_until : (depth left : ℕ) → 0 < depth → 0 < left → left ≡ cbor_depth_behind (get_or nodes i d).kind depth
      → until_closed depth (cbor_node_calls bytes (get_or nodes i d) ++ streamed_items bytes (drop (i + 1) nodes)) ≡ cbor_node_calls bytes (get_or nodes i d) ++ until_closed left (streamed_items bytes (drop (i + 1) nodes))
  left_until zero left p q e = absurd (omega arith)
  left_until (suc depth) zero p q e = absurd (omega arith)
  left_until (suc depth) (suc left) p q e = open_until bytes (get_or nodes i d) depth (streamed_items bytes (drop (i + 1) nodes)) node_within left (sym e)

  pub within_step : (new : Standing V) (left : ℕ) → 0 < depth → 0 < left → left ≡ cbor_depth_behind (get_or nodes i d).kind depth → Streams law mid (makes (cbor_node_calls bytes (get_or nodes i d))) new
      → IsStreamedWithin law old new bytes whole left (drop (i + 1) nodes)
  unfolding then_emits
  within_step new left p q e t = record {
    done = s.done ++ cbor_node_calls bytes (get_or nodes i d);
    whole_is = whole_here ∙ ap (λ x. s.done ++ x) (left_until depth left p q e) ∙ sym (append_assoc s.done (cbor_node_calls bytes (get_or nodes i d)) (until_closed left (streamed_items bytes (drop (i + 1) nodes))));
    kept = stand_here.1;
    streams = streams_then s.streams t;
  }

  pub within_stop : (new : Standing V) (left : ℕ) → 0 < depth → 0 < left → left ≡ cbor_depth_behind (get_or nodes i d).kind depth → Stops law mid (makes (cbor_node_calls bytes (get_or nodes i d))) new
      → Stops law old (makes whole) new
  unfolding then_emits
  within_stop new left p q e r =
      let more : List Call = until_closed left (streamed_items bytes (drop (i + 1) nodes)) in
      let whole_is = whole_here ∙ ap (λ x. s.done ++ x) (left_until depth left p q e) in
      let stops : Stops law old (makes (s.done ++ (cbor_node_calls bytes (get_or nodes i d) ++ more))) new = stops_later s.streams (stops_first (makes more) r) in
      subst (λ calls. Stops law old (makes calls) new) (sym whole_is) stops

  last_until : (depth : ℕ) → 0 < depth → 0 ≡ cbor_depth_behind (get_or nodes i d).kind depth
      → until_closed depth (cbor_node_calls bytes (get_or nodes i d) ++ streamed_items bytes (drop (i + 1) nodes)) ≡ calls_at bytes (get_or nodes i d)
  last_until zero p e = absurd (omega arith)
  last_until (suc depth) p e = closed_until bytes (get_or nodes i d) depth (streamed_items bytes (drop (i + 1) nodes)) node_within (sym e)

  -- the node that closes the item
  pub within_last : (r : Result (Unit {0}) Error) (new : Standing V) → 0 < depth → 0 ≡ cbor_depth_behind (get_or nodes i d).kind depth → Emits law r mid (makes (calls_at bytes (get_or nodes i d))) new → Emits law r old (makes whole) new
  unfolding then_emits
  within_last (Ok done) new p e t =
      let streams : Streams law old (makes (s.done ++ calls_at bytes (get_or nodes i d))) new = streams_then s.streams t in
      subst (λ calls. Streams law old (makes calls) new) (sym (whole_here ∙ ap (λ x. s.done ++ x) (last_until depth p e))) streams
  within_last (Err refusal) new p e t =
      let stops : Stops law old (makes (s.done ++ calls_at bytes (get_or nodes i d))) new = stops_later s.streams t in
      subst (λ calls. Stops law old (makes calls) new) (sym (whole_here ∙ ap (λ x. s.done ++ x) (last_until depth p e))) stops

-- ---- the first node

single_until : (k : made_kind.Kind) (bytes : List ℕ) (more : List Call) → NodeBegins k bytes → is_first k ≡ true → (k ≡ kind.Begin → ⊥) → until_closed 0 (node_own_calls k bytes ++ more) ≡ node_own_calls k bytes
single_until kind.Item bytes more s f n = s.1.closed 0 more ∙ append-nil (node_own_calls kind.Item bytes)
single_until kind.Big bytes more s f n = refl
single_until kind.NegativeBig bytes more s f n = refl
single_until kind.Begin bytes more s f n = absurd (n refl)
single_until kind.TextPiece bytes more s f n = absurd (false≢true f)
single_until kind.BinaryPiece bytes more s f n = absurd (false≢true f)
single_until kind.EndText bytes more s f n = absurd (false≢true f)
single_until kind.EndBinary bytes more s f n = absurd (false≢true f)
single_until kind.EndSeq bytes more s f n = absurd (false≢true f)
single_until kind.EndMap bytes more s f n = absurd (false≢true f)

opening_until : (k : made_kind.Kind) (p : made_place.Place) (bytes : List ℕ) (more : List Call) → NodeBegins k bytes → k ≡ kind.Begin → until_closed 0 (node_own_calls k bytes ++ (item_ends_behind k p ++ more)) ≡ node_own_calls k bytes ++ until_closed 1 more
opening_until kind.Begin p bytes more s e = s.1.opens 0 more
opening_until kind.Item p bytes more s e = absurd (cc e)
opening_until kind.Big p bytes more s e = absurd (cc e)
opening_until kind.NegativeBig p bytes more s e = absurd (cc e)
opening_until kind.TextPiece p bytes more s e = absurd (cc e)
opening_until kind.BinaryPiece p bytes more s e = absurd (cc e)
opening_until kind.EndText p bytes more s e = absurd (cc e)
opening_until kind.EndBinary p bytes more s e = absurd (cc e)
opening_until kind.EndSeq p bytes more s e = absurd (cc e)
opening_until kind.EndMap p bytes more s e = absurd (cc e)

first_until : (k : made_kind.Kind) (p : made_place.Place) (bytes : List ℕ) (more : List Call) → NodeBegins k bytes → is_first k ≡ true
    → (left : List Call) × (until_closed 0 (node_own_calls k bytes ++ (item_ends_behind k p ++ more)) ≡ node_own_calls k bytes ++ left)
first_until kind.Item p bytes more s f = ([], s.1.closed 0 (item_place_ends p ++ more))
first_until kind.Big p bytes more s f = ([], refl)
first_until kind.NegativeBig p bytes more s f = ([], refl)
first_until kind.Begin p bytes more s f = (until_closed 1 more, s.1.opens 0 more)
first_until kind.TextPiece p bytes more s f = absurd (false≢true f)
first_until kind.BinaryPiece p bytes more s f = absurd (false≢true f)
first_until kind.EndText p bytes more s f = absurd (false≢true f)
first_until kind.EndBinary p bytes more s f = absurd (false≢true f)
first_until kind.EndSeq p bytes more s f = absurd (false≢true f)
first_until kind.EndMap p bytes more s f = absurd (false≢true f)

module _ (bytes : List ℕ) where
  -- the first node makes its own calls
  pub own_then : (nodes : List Node) (d : Node) → AreOfItem bytes nodes → (left : List Call) × (item_by_itself (streamed_items bytes nodes) ≡ calls_at bytes (get_or nodes 0 d) ++ left)
  own_then [] d a = absurd a.begins
  own_then (first ∷ nodes) d a =
      let (left, same) = first_until first.kind first.place (drop (node_offset first) bytes) (streamed_items bytes nodes) a.stand.0 a.begins in
      (left, by_itself_from bytes first nodes a ∙ same)

  -- an item of one node
  pub single_calls : (nodes : List Node) (d : Node) → AreOfItem bytes nodes → ((get_or nodes 0 d).kind ≡ kind.Begin → ⊥) → item_by_itself (streamed_items bytes nodes) ≡ calls_at bytes (get_or nodes 0 d)
  single_calls [] d a n = absurd a.begins
  single_calls (first ∷ nodes) d a n =
      by_itself_from bytes first nodes a ∙ single_until first.kind (drop (node_offset first) bytes) (item_ends_behind first.kind first.place ++ streamed_items bytes nodes) a.stand.0 a.begins n

  -- a string, an array or a map, by its begin and what is behind it
  pub opened_calls : (nodes : List Node) (d : Node) → AreOfItem bytes nodes → (get_or nodes 0 d).kind ≡ kind.Begin
      → item_by_itself (streamed_items bytes nodes) ≡ calls_at bytes (get_or nodes 0 d) ++ until_closed 1 (streamed_items bytes (drop 1 nodes))
  opened_calls [] d a e = absurd a.begins
  opened_calls (first ∷ nodes) d a e = by_itself_from bytes first nodes a ∙ opening_until first.kind first.place (drop (node_offset first) bytes) (streamed_items bytes nodes) a.stand.0 e

-- the calls of one value, first some and then others
module _ {V : Type 0} {law : Law V} {old : Standing V} (first more : List Call) {calls : List Call} (whole : calls ≡ first ++ more) where
  pub stops_first_of : {new : Standing V} → Stops law old (makes first) new → Stops law old (makes calls) new
  unfolding then_emits
  stops_first_of {new = new} s =
      let stops : Stops law old (makes (first ++ more)) new = stops_first (makes more) s in
      subst (λ row. Stops law old (makes row) new) (sym whole) stops

  pub emits_both : {mid : Standing V} (r : Result (Unit {0}) Error) (new : Standing V) → Streams law old (makes first) mid → Emits law r mid (makes more) new → Emits law r old (makes calls) new
  unfolding then_emits
  emits_both (Ok done) new s t =
      let streams : Streams law old (makes (first ++ more)) new = streams_then s t in
      subst (λ row. Streams law old (makes row) new) (sym whole) streams
  emits_both (Err refusal) new s t =
      let stops : Stops law old (makes (first ++ more)) new = stops_later s t in
      subst (λ row. Stops law old (makes row) new) (sym whole) stops
