-- The calls of a node in three parts, and what streaming a document knows at each node.
use Rattle.std.specs.Prelude.{◌≡◌, ℕ, ◌+◌, ◌<◌, List, [], ◌∷◌, ◌++◌, map, length, drop, get_or, Result, Ok, Err, refl}
use Rattle.std.proofs.Common.{sym, ap, subst, ◌∙◌, append_assoc, append-nil, add-one}
use Rattle.std.proofs.Math.Seq.{drop-cons}
use Rattle.sval_label.specs.declared.error.Error.{Error}
use Rattle.sval_label.specs.Calls.{Call}
use Rattle.sval_core.specs.Law.{Standing, Law, Streams, Stops, Emits, then_emits}
use Rattle.sval_core.specs.Values.{makes}
use Rattle.sval_core.proofs.Emissions.{streams_then, stops_first, stops_later}
use Rattle.sval_json_read.specs.declared.node.Node.{Node}
use Rattle.sval_json_read.specs.Tokens.{Place}
use Rattle.sval_json_read.specs.Nodes.{Kept, Null, Truth, Number, Text, BeginArray, EndArray, BeginObject, EndObject, token_in, placed_in, streamed}
use Rattle.sval_json_read.specs.Calls.{calls_in, placed_token_calls}
use Rattle.sval_json_read.specs.NodeCalls.{begins_before, token_own_calls, ends_behind}
use Rattle.sval_json_read.specs.SeenNodes.{seen_node, IsKeptOf, AreKeptOf}

-- ---- the three parts of a node's calls

three_parts : (bytes : List ℕ) (place : Place) (kept : Kept) → calls_in place (token_in bytes kept) ≡ begins_before kept place ++ (token_own_calls (token_in bytes kept) ++ ends_behind kept place)
three_parts bytes place Null = refl
three_parts bytes place (Truth b) = refl
three_parts bytes place (Number from upto) = refl
three_parts bytes place (Text from upto) = refl
three_parts bytes place BeginArray = refl
three_parts bytes place EndArray = refl
three_parts bytes place BeginObject = refl
three_parts bytes place EndObject = refl

module _ {V : Type 0} {law : Law V} {old : Standing V} (bytes : List ℕ) (place : Place) (kept : Kept) where
  pub stops_at_begin : {new : Standing V} → Stops law old (makes (begins_before kept place)) new → Stops law old (makes (calls_in place (token_in bytes kept))) new
  unfolding then_emits
  stops_at_begin {new = new} s =
      let stops : Stops law old (makes (begins_before kept place ++ (token_own_calls (token_in bytes kept) ++ ends_behind kept place))) new =
      stops_first (makes (token_own_calls (token_in bytes kept) ++ ends_behind kept place)) s in
      subst (λ calls. Stops law old (makes calls) new) (sym (three_parts bytes place kept)) stops

  pub stops_at_own : {mid new : Standing V} → Streams law old (makes (begins_before kept place)) mid → Stops law mid (makes (token_own_calls (token_in bytes kept))) new
      → Stops law old (makes (calls_in place (token_in bytes kept))) new
  unfolding then_emits
  stops_at_own {new = new} s t =
      let stops : Stops law old (makes (begins_before kept place ++ (token_own_calls (token_in bytes kept) ++ ends_behind kept place))) new =
      stops_later s (stops_first (makes (ends_behind kept place)) t) in
      subst (λ calls. Stops law old (makes calls) new) (sym (three_parts bytes place kept)) stops

  pub emits_end : {first second : Standing V} (r : Result (Unit {0}) Error) (new : Standing V) → Streams law old (makes (begins_before kept place)) first
      → Streams law first (makes (token_own_calls (token_in bytes kept))) second → Emits law r second (makes (ends_behind kept place)) new
      → Emits law r old (makes (calls_in place (token_in bytes kept))) new
  unfolding then_emits
  emits_end (Ok done) new s t e =
      let streams : Streams law old (makes (begins_before kept place ++ (token_own_calls (token_in bytes kept) ++ ends_behind kept place))) new = streams_then s (streams_then t e) in
      subst (λ calls. Streams law old (makes calls) new) (sym (three_parts bytes place kept)) streams
  emits_end (Err refusal) new s t e =
      let stops : Stops law old (makes (begins_before kept place ++ (token_own_calls (token_in bytes kept) ++ ends_behind kept place))) new = stops_later s (stops_later t e) in
      subst (λ calls. Stops law old (makes calls) new) (sym (three_parts bytes place kept)) stops

-- ---- node by node

-- some first calls were taken, and these nodes are left
pub record IsStreamedUpTo {V : Type 0} (law : Law V) (old now : Standing V) (text : List ℕ) (all left : List Node) : Type 0 where
  pub done : List Call
  pub all_is : streamed text (map seen_node all) ≡ done ++ streamed text (map seen_node left)
  pub kept : AreKeptOf text left
  pub streams : Streams law old (makes done) now

pub here : (nodes : List Node) (i : ℕ) (d : Node) → i < length nodes → drop i nodes ≡ get_or nodes i d ∷ drop (i + 1) nodes
here nodes i d h = rw add-one (drop-cons nodes i d h)

module _ {V : Type 0} {law : Law V} {old mid : Standing V} {text : List ℕ} (nodes : List Node) (i : ℕ) (d : Node) where
  kept_here : IsStreamedUpTo law old mid text nodes (drop i nodes) → i < length nodes → AreKeptOf text (get_or nodes i d ∷ drop (i + 1) nodes)
  kept_here s h = subst (AreKeptOf text) (here nodes i d h) s.kept

  pub kept_node : IsStreamedUpTo law old mid text nodes (drop i nodes) → i < length nodes → IsKeptOf text (get_or nodes i d)
  kept_node s h = (kept_here s h).0

  all_from_here : (s : IsStreamedUpTo law old mid text nodes (drop i nodes)) → i < length nodes
      → streamed text (map seen_node nodes) ≡ s.done ++ (placed_token_calls (placed_in text (seen_node (get_or nodes i d))) ++ streamed text (map seen_node (drop (i + 1) nodes)))
  all_from_here s h = s.all_is ∙ ap (λ left. s.done ++ streamed text (map seen_node left)) (here nodes i d h)

  pub node-step : (new : Standing V) → IsStreamedUpTo law old mid text nodes (drop i nodes) → i < length nodes
      → Streams law mid (makes (placed_token_calls (placed_in text (seen_node (get_or nodes i d))))) new → IsStreamedUpTo law old new text nodes (drop (i + 1) nodes)
  unfolding then_emits
  node-step new s h t = record {
    done = s.done ++ placed_token_calls (placed_in text (seen_node (get_or nodes i d)));
    all_is = all_from_here s h ∙ sym (append_assoc s.done (placed_token_calls (placed_in text (seen_node (get_or nodes i d)))) (streamed text (map seen_node (drop (i + 1) nodes))));
    kept = (kept_here s h).1;
    streams = streams_then s.streams t;
  }

  pub node-stop : (new : Standing V) → IsStreamedUpTo law old mid text nodes (drop i nodes) → i < length nodes
      → Stops law mid (makes (placed_token_calls (placed_in text (seen_node (get_or nodes i d))))) new → Stops law old (makes (streamed text (map seen_node nodes))) new
  unfolding then_emits
  node-stop new s h r =
      let left = streamed text (map seen_node (drop (i + 1) nodes)) in
      let stops : Stops law old (makes (s.done ++ (placed_token_calls (placed_in text (seen_node (get_or nodes i d))) ++ left))) new = stops_later s.streams (stops_first (makes left) r) in
      rw (all_from_here s h) stops

pub nodes-start : {V : Type 0} {law : Law V} {old : Standing V} {text : List ℕ} (nodes : List Node) → AreKeptOf text nodes → IsStreamedUpTo law old old text nodes nodes
nodes-start nodes k = record { done = []; all_is = refl; kept = k; streams = record { willing = refl; ran = refl; faults = refl; wants = refl } }

pub all_nodes : {V : Type 0} {law : Law V} {old new : Standing V} {text : List ℕ} {nodes left : List Node} → IsStreamedUpTo law old new text nodes left → left ≡ []
    → Streams law old (makes (streamed text (map seen_node nodes))) new
all_nodes {law = law} {old = old} {new = new} {text = text} s e =
    let all_is = s.all_is ∙ ap (λ left. s.done ++ streamed text (map seen_node left)) e ∙ append-nil s.done in
    subst (λ calls. Streams law old (makes calls) new) (sym all_is) s.streams
