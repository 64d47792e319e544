-- What taking the first of some items, pairs or chunks gives.
use Rattle.std.specs.Prelude.{◌≡◌, ℕ, List, [], ◌∷◌, drop, Option, Some, None, refl}
use Rattle.std.proofs.Common.{sym, ap, subst, ◌∙◌}
use Rattle.sval_cbor_read.specs.declared.node.Node.{Node}
use Rattle.sval_cbor_read.specs.CborValues.{CborValue, cbor_values_in}
use Rattle.sval_cbor_read.specs.CborLookups.{Entry, cbor_values_listed, cbor_paired}
use Rattle.sval_cbor_read.specs.SeenNodes.{streamed_items, NodesStand}
use Rattle.sval_cbor_read.specs.NodeSpans.{cbor_span, BeginsItem, IsBehindItem}
use Rattle.sval_cbor_read.specs.SeenFound.{value_at, AreInItem, AreOfItem}
use Rattle.sval_cbor_read.proofs.CborNodes.{item_then, no_item_here, stand_behind}
use Rattle.sval_cbor_read.proofs.InnerItems.{nodes_end_behind}

-- a pair of these two
abbrev pub entry : CborValue → CborValue → Entry
entry key value = record { key = key; value = value }

-- the same pair in front of others
pub pair_row : {key other value another : CborValue} (left : List Entry) → key ≡ other → value ≡ another → entry key value ∷ left ≡ entry other another ∷ left
pair_row {other = other} {value = value} left e f = ap (λ k. entry k value ∷ left) e ∙ ap (λ v. entry other v ∷ left) f

-- the nodes of an item are in one, and so are those behind others
pub within_item : {bytes : List ℕ} {nodes : List Node} → AreOfItem bytes nodes → AreInItem bytes nodes
within_item a = record { stand = a.stand; ends = a.ends }

pub behind_within : (bytes : List ℕ) (nodes : List Node) (count : ℕ) → AreInItem bytes nodes → AreInItem bytes (drop count nodes)
behind_within bytes nodes count a = record { stand = stand_behind bytes nodes count a.stand; ends = nodes_end_behind bytes nodes count a.ends }

module _ (bytes : List ℕ) where
  -- the nodes behind an item stand
  pub behind_stands : (nodes behind : List Node) → NodesStand bytes nodes → IsBehindItem nodes behind → NodesStand bytes behind
  behind_stands nodes behind s b = subst (NodesStand bytes) (sym b.behind_is) (stand_behind bytes nodes (cbor_span 0 nodes) s)

  pub item_within : (nodes behind : List Node) → AreInItem bytes nodes → IsBehindItem nodes behind → AreOfItem bytes nodes
  item_within nodes behind a b = record { stand = a.stand; ends = a.ends; begins = b.begins }

  pub left_within : (nodes behind : List Node) → AreInItem bytes nodes → IsBehindItem nodes behind → AreInItem bytes behind
  left_within nodes behind a b = subst (AreInItem bytes) (sym b.behind_is) (behind_within bytes nodes (cbor_span 0 nodes) a)

  -- the items of nodes, and their pairs
  abbrev pub items_at : List Node → List CborValue
  items_at nodes = cbor_values_listed (cbor_values_in (streamed_items bytes nodes))

  abbrev pub entries_at : List Node → List Entry
  entries_at nodes = cbor_paired (items_at nodes)

  pub first_item : (nodes behind : List Node) → NodesStand bytes nodes → IsBehindItem nodes behind → items_at nodes ≡ value_at bytes nodes ∷ items_at behind
  first_item nodes behind s b = ap cbor_values_listed (item_then bytes nodes behind s b)

  pub no_item : (nodes : List Node) → NodesStand bytes nodes → (BeginsItem nodes → ⊥) → items_at nodes ≡ []
  no_item nodes s n = ap cbor_values_listed (no_item_here bytes nodes s n)

  pub first_entry : (nodes values behind : List Node) → NodesStand bytes nodes → IsBehindItem nodes values → IsBehindItem values behind
      → entries_at nodes ≡ entry (value_at bytes nodes) (value_at bytes values) ∷ entries_at behind
  first_entry nodes values behind s b d = ap cbor_paired (first_item nodes values s b ∙ ap (λ row. value_at bytes nodes ∷ row) (first_item values behind (behind_stands nodes values s b) d))

  pub no_entry : (nodes : List Node) → NodesStand bytes nodes → (BeginsItem nodes → ⊥) → entries_at nodes ≡ []
  no_entry nodes s n = ap cbor_paired (no_item nodes s n)

  pub lone_key : (nodes values : List Node) → NodesStand bytes nodes → IsBehindItem nodes values → (BeginsItem values → ⊥) → entries_at nodes ≡ []
  lone_key nodes values s b n = ap cbor_paired (first_item nodes values s b ∙ ap (λ row. value_at bytes nodes ∷ row) (no_item values (behind_stands nodes values s b) n))
