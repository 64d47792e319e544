-- A node more, as steps of the reader.
use Rattle.std.specs.Prelude.{◌≡◌, ℕ, ◌<◌, List, [], ◌∷◌, ◌++◌, length, drop, Option, refl}
use Rattle.std.proofs.Common.{sym, ap, ◌∙◌, subst, arith, append_assoc, append-nil}
use Rattle.std.proofs.lemmas.Grind.{flat_map-append}
use Rattle.sval_label.specs.Calls.{Call}
use Rattle.sval_cbor_read.specs.declared.node.Place.{Place}
use Rattle.sval_cbor_read.specs.declared.node.Kind as made_kind
use Rattle.sval_cbor_read.specs.declared.node.Kind.TheVariants as kind
use Rattle.sval_cbor_read.specs.declared.node.Node.{Node}
use Rattle.sval_cbor_read.specs.declared.item.Item as made_item
use Rattle.sval_cbor_read.specs.declared.item.Item.TheVariants as item
use Rattle.sval_cbor_read.specs.Reading.{OpenItem, Items, Keys, Values, ItemState, Ended, Move}
use Rattle.sval_cbor_read.specs.Steps.{Spot, spot, ItemSteps, one_step, more_steps}
use Rattle.sval_cbor_read.specs.SeenNodes.{node_offset, item_node, item_begins_before, node_own_calls, item_ends_behind, cbor_node_calls, item_place_ends, streamed_items, NodeBegins, NodeStands, NodesStand}
use Rattle.sval_cbor_read.specs.SeenFrames.{item_place_in}
use Rattle.sval_cbor_read.specs.SeenItems.{item_begin_calls, IsBegun, IsNoTag}
use Rattle.sval_cbor_read.specs.SeenReader.{item_state_of, calls_before, expected_after, opened_after}

-- each node that stands in the bytes makes a call
pub own_some : (k : made_kind.Kind) (bytes : List ℕ) → NodeBegins k bytes → 0 < length (node_own_calls k bytes)
own_some kind.Item bytes s = s.0
own_some kind.Big bytes s = omega arith
own_some kind.NegativeBig bytes s = omega arith
own_some kind.Begin bytes s = s.0
own_some kind.TextPiece bytes s = s
own_some kind.BinaryPiece bytes s = s
own_some kind.EndText bytes s = omega arith
own_some kind.EndBinary bytes s = omega arith
own_some kind.EndSeq bytes s = omega arith
own_some kind.EndMap bytes s = omega arith

-- and so does each item but a tag
pub begin_some : (begun : made_item.Item) (bytes : List ℕ) (move : Option Move) → IsBegun begun bytes move → IsNoTag begun → 0 < length (item_begin_calls begun bytes move)
begin_some item.Whole bytes move s n = s.0
begin_some (item.Big from) bytes move s n = omega arith
begin_some (item.NegativeBig from) bytes move s n = omega arith
begin_some (item.Container frame) bytes move s n = s.0
begin_some (item.Pieces medium) bytes move s n = s.0
begin_some item.Tag bytes move s n = absurd n

-- a node has the place that it was made with
pub same_place : (k : made_kind.Kind) (place : Place) (at : ℕ) → node_offset (item_node k place at) ≡ at
same_place k place at = omega arith

-- one node more that stands in the bytes
module _ (bytes : List ℕ) where
  all_add : (nodes : List Node) (n : Node) → NodesStand bytes nodes → NodeStands bytes n → NodesStand bytes (nodes ++ (n ∷ []))
  all_add [] n all h = (h, tt)
  all_add (first ∷ nodes) n all h = (all.0, all_add nodes n all.1 h)

  pub kept-add : (nodes : List Node) (k : made_kind.Kind) (place : Place) (at : ℕ) → NodesStand bytes nodes → NodeBegins k (drop at bytes) → NodesStand bytes (nodes ++ (item_node k place at ∷ []))
  kept-add nodes k place at all s = all_add nodes (item_node k place at) all (subst (λ n. NodeBegins k (drop n bytes)) (sym (same_place k place at)) s)

  streamed-add : (nodes : List Node) (n : Node) → streamed_items bytes (nodes ++ (n ∷ [])) ≡ streamed_items bytes nodes ++ cbor_node_calls bytes n
  streamed-add nodes n = flat_map-append (cbor_node_calls bytes) nodes (n ∷ []) ∙ ap (λ x. streamed_items bytes nodes ++ x) (append-nil (cbor_node_calls bytes n))

  regroup : (s before own ends more : List Call) → (s ++ before ++ own) ++ (ends ++ more) ≡ (s ++ (before ++ (own ++ ends))) ++ more
  regroup s before own ends more = simp append_assoc

  -- the calls before a node, its own and those behind it
  pub made-add : (nodes : List Node) (k : made_kind.Kind) (place : Place) (at : ℕ) (before ends more : List Call) → item_begins_before k place ≡ before → item_ends_behind k place ≡ ends
      → (streamed_items bytes nodes ++ before ++ node_own_calls k (drop at bytes)) ++ (ends ++ more) ≡ streamed_items bytes (nodes ++ (item_node k place at ∷ [])) ++ more
  made-add nodes k place at before ends more b e =
      let own : node_own_calls k (drop (node_offset (item_node k place at)) bytes) ≡ node_own_calls k (drop at bytes) = ap (λ n. node_own_calls k (drop n bytes)) (same_place k place at) in
      regroup (streamed_items bytes nodes) before (node_own_calls k (drop at bytes)) ends more
      ∙ ap (λ x. (streamed_items bytes nodes ++ (x ++ (node_own_calls k (drop at bytes) ++ ends))) ++ more) (sym b)
      ∙ ap (λ x. (streamed_items bytes nodes ++ (item_begins_before k place ++ (node_own_calls k (drop at bytes) ++ x))) ++ more) (sym e)
      ∙ ap (λ x. (streamed_items bytes nodes ++ (item_begins_before k place ++ (x ++ item_ends_behind k place))) ++ more) (sym own)
      ∙ ap (λ x. x ++ more) (sym (streamed-add nodes (item_node k place at)))

-- the calls at the spot that steps lead to
pub with_made : {first : Spot} {state : ItemState} {left : List ℕ} {made other : List Call} → made ≡ other → ItemSteps first (spot state left made) → ItemSteps first (spot state left other)
with_made {first = first} {state = state} {left = left} e s = subst (λ x. ItemSteps first (spot state left x)) e s

module _ (bytes : List ℕ) {first : Spot} {left : List ℕ} where
  -- the first node of an item, or one in the middle
  pub begins_with : {state : ItemState} (nodes : List Node) (k : made_kind.Kind) (place : Place) (at : ℕ) (before : List Call) → item_begins_before k place ≡ before → item_ends_behind k place ≡ []
      → ItemSteps first (spot state left (streamed_items bytes nodes ++ before ++ node_own_calls k (drop at bytes))) → ItemSteps first (spot state left (streamed_items bytes (nodes ++ (item_node k place at ∷ [])) ++ []))
  begins_with nodes k place at before b e s =
      with_made (sym (append-nil (streamed_items bytes nodes ++ before ++ node_own_calls k (drop at bytes))) ∙ made-add bytes nodes k place at before [] [] b e) s

  -- the last node of an item
  pub ends_with : (frames : List OpenItem) (nodes : List Node) (k : made_kind.Kind) (at : ℕ) (before : List Call) → item_begins_before k (item_place_in frames) ≡ before → item_ends_behind k (item_place_in frames) ≡ item_place_ends (item_place_in frames)
      → ItemSteps first (spot (Ended frames) left (streamed_items bytes nodes ++ before ++ node_own_calls k (drop at bytes)))
      → ItemSteps first (spot (item_state_of (expected_after frames) (opened_after frames)) left (streamed_items bytes (nodes ++ (item_node k (item_place_in frames) at ∷ [])) ++ calls_before (expected_after frames) (opened_after frames)))
  ends_with [] nodes k at before b e s = begins_with nodes k _ at before b e s
  ends_with (Items more ∷ frames) nodes k at before b e s = with_made (made-add bytes nodes k _ at before _ [] b e) (more_steps s (one_step refl))
  ends_with (Keys more ∷ frames) nodes k at before b e s = with_made (made-add bytes nodes k _ at before _ _ b e) (more_steps s (one_step refl))
  ends_with (Values more ∷ frames) nodes k at before b e s = with_made (made-add bytes nodes k _ at before _ [] b e) (more_steps s (one_step refl))
