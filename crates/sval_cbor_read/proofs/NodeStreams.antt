-- What streaming a document knows at each node.
use Rattle.std.specs.Prelude.{◌≡◌, ℕ, ◌+◌, ◌<◌, List, [], ◌∷◌, ◌++◌, length, drop, get_or, Result, Ok, Err, refl}
use Rattle.std.proofs.Common.{sym, ap, subst, ◌∙◌, append_assoc, append-nil, add-one}
use Rattle.std.proofs.Math.Seq.{drop-cons}
use Rattle.sval_label.specs.declared.error.Error.{Error}
use Rattle.sval_label.specs.Calls.{Call}
use Rattle.sval_core.specs.Law.{Standing, Law, Streams, Stops, Emits, then_emits}
use Rattle.sval_core.specs.Values.{makes}
use Rattle.sval_core.proofs.Emissions.{streams_then, stops_first, stops_later}
use Rattle.sval_cbor_read.specs.declared.node.Node.{Node}
use Rattle.sval_cbor_read.specs.SeenNodes.{node_offset, item_begins_before, node_own_calls, item_ends_behind, cbor_node_calls, streamed_items, NodeStands, NodesStand}

-- ---- the three parts of a node's calls

-- a node's own calls
abbrev pub calls_at : List ℕ → Node → List Call
calls_at bytes n = node_own_calls n.kind (drop (node_offset n) bytes)

module _ {V : Type 0} {law : Law V} {old : Standing V} (bytes : List ℕ) (n : Node) where
  pub stops_at_begin : {new : Standing V} → Stops law old (makes (item_begins_before n.kind n.place)) new → Stops law old (makes (cbor_node_calls bytes n)) new
  unfolding then_emits
  stops_at_begin s = stops_first (makes (calls_at bytes n ++ item_ends_behind n.kind n.place)) s

  pub stops_at_own : {mid new : Standing V} → Streams law old (makes (item_begins_before n.kind n.place)) mid → Stops law mid (makes (calls_at bytes n)) new → Stops law old (makes (cbor_node_calls bytes n)) new
  unfolding then_emits
  stops_at_own s t = stops_later s (stops_first (makes (item_ends_behind n.kind n.place)) t)

  pub emits_end : {first second : Standing V} (r : Result (Unit {0}) Error) (new : Standing V) → Streams law old (makes (item_begins_before n.kind n.place)) first → Streams law first (makes (calls_at bytes n)) second
      → Emits law r second (makes (item_ends_behind n.kind n.place)) new → Emits law r old (makes (cbor_node_calls bytes n)) new
  unfolding then_emits
  emits_end (Ok done) new s t e = streams_then s (streams_then t e)
  emits_end (Err refusal) new s t e = stops_later s (stops_later t e)

-- ---- node by node

-- some first calls were taken, and these nodes are left
pub record IsStreamedUpTo {V : Type 0} (law : Law V) (old now : Standing V) (bytes : List ℕ) (all left : List Node) : Type 0 where
  pub done : List Call
  pub all_is : streamed_items bytes all ≡ done ++ streamed_items bytes left
  pub kept : NodesStand bytes left
  pub streams : Streams law old (makes done) now

pub here : (nodes : List Node) (i : ℕ) (d : Node) → i < length nodes → drop i nodes ≡ get_or nodes i d ∷ drop (i + 1) nodes
here nodes i d h = rw add-one (drop-cons nodes i d h)

module _ {V : Type 0} {law : Law V} {old mid : Standing V} {bytes : List ℕ} (nodes : List Node) (i : ℕ) (d : Node) where
  kept_here : IsStreamedUpTo law old mid bytes nodes (drop i nodes) → i < length nodes → NodesStand bytes (get_or nodes i d ∷ drop (i + 1) nodes)
  kept_here s h = subst (NodesStand bytes) (here nodes i d h) s.kept

  pub kept_node : IsStreamedUpTo law old mid bytes nodes (drop i nodes) → i < length nodes → NodeStands bytes (get_or nodes i d)
  kept_node s h = (kept_here s h).0

  all_from_here : (s : IsStreamedUpTo law old mid bytes nodes (drop i nodes)) → i < length nodes
      → streamed_items bytes nodes ≡ s.done ++ (cbor_node_calls bytes (get_or nodes i d) ++ streamed_items bytes (drop (i + 1) nodes))
  all_from_here s h = s.all_is ∙ ap (λ left. s.done ++ streamed_items bytes left) (here nodes i d h)

  pub node-step : (new : Standing V) → IsStreamedUpTo law old mid bytes nodes (drop i nodes) → i < length nodes → Streams law mid (makes (cbor_node_calls bytes (get_or nodes i d))) new
      → IsStreamedUpTo law old new bytes nodes (drop (i + 1) nodes)
  unfolding then_emits
  node-step new s h t = record {
    done = s.done ++ cbor_node_calls bytes (get_or nodes i d);
    all_is = all_from_here s h ∙ sym (append_assoc s.done (cbor_node_calls bytes (get_or nodes i d)) (streamed_items bytes (drop (i + 1) nodes)));
    kept = (kept_here s h).1;
    streams = streams_then s.streams t;
  }

  pub node-stop : (new : Standing V) → IsStreamedUpTo law old mid bytes nodes (drop i nodes) → i < length nodes → Stops law mid (makes (cbor_node_calls bytes (get_or nodes i d))) new
      → Stops law old (makes (streamed_items bytes nodes)) new
  unfolding then_emits
  node-stop new s h r =
      let left = streamed_items bytes (drop (i + 1) nodes) in
      let stops : Stops law old (makes (s.done ++ (cbor_node_calls bytes (get_or nodes i d) ++ left))) new = stops_later s.streams (stops_first (makes left) r) in
      rw (all_from_here s h) stops

pub nodes-start : {V : Type 0} {law : Law V} {old : Standing V} {bytes : List ℕ} (nodes : List Node) → NodesStand bytes nodes → IsStreamedUpTo law old old bytes nodes nodes
nodes-start nodes k = record { done = []; all_is = refl; kept = k; streams = record { willing = refl; ran = refl; faults = refl; wants = refl } }

pub all_nodes : {V : Type 0} {law : Law V} {old new : Standing V} {bytes : List ℕ} {nodes left : List Node} → IsStreamedUpTo law old new bytes nodes left → left ≡ [] → Streams law old (makes (streamed_items bytes nodes)) new
all_nodes {law = law} {old = old} {new = new} {bytes = bytes} s e =
    let all_is = s.all_is ∙ ap (λ left. s.done ++ streamed_items bytes left) e ∙ append-nil s.done in
    subst (λ calls. Streams law old (makes calls) new) (sym all_is) s.streams
