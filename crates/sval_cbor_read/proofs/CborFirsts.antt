-- The nodes of an item begin with a node that begins an item.
use Rattle.std.specs.Prelude.{◌≡◌, ℕ, Bool, true, false, List, [], ◌∷◌, drop, refl}
use Rattle.std.proofs.Common.{sym, ap, ◌∙◌}
use Rattle.std.proofs.lemmas.Bool.{false≢true}
use Rattle.sval_label.specs.Calls.{Call}
use Rattle.sval_core.specs.Trees.{Tree}
use Rattle.sval_cbor_read.specs.declared.node.Node.{Node}
use Rattle.sval_cbor_read.specs.Items.{IsItem}
use Rattle.sval_cbor_read.specs.Document.{cbor_calls}
use Rattle.sval_cbor_read.specs.CborValues.{CborValue, no_values, a_value, cbor_values_in, cbor_innermost_level}
use Rattle.sval_cbor_read.specs.SeenNodes.{streamed_items, NodesStand}
use Rattle.sval_cbor_read.specs.NodeSpans.{is_first, BeginsItem}
use Rattle.sval_cbor_read.proofs.CborValues.{item_means}
use Rattle.sval_cbor_read.proofs.CborNodes.{no_item_here}

by_value : (bytes : List ℕ) (nodes : List Node) (value : CborValue) → NodesStand bytes nodes → cbor_values_in (streamed_items bytes nodes) ≡ a_value value no_values → BeginsItem nodes
by_value bytes [] value s e = absurd (cc e)
by_value bytes (n ∷ nodes) value s e = by_test (is_first n.kind) refl
  where
    by_test : (b : Bool) → is_first n.kind ≡ b → is_first n.kind ≡ true
    by_test true f = f
    by_test false f = absurd (cc (sym e ∙ no_item_here bytes (n ∷ nodes) s (λ t. false≢true (sym f ∙ t))))

pub begins_by : (bytes : List ℕ) (nodes : List Node) {rest : List ℕ} {tree : Tree} (item : IsItem bytes tree rest) → streamed_items bytes nodes ≡ cbor_calls item [] → NodesStand bytes nodes → BeginsItem nodes
begins_by bytes nodes item same s = let m = item_means item [] in by_value bytes nodes m.value s (ap cbor_values_in same ∙ ap (λ levels. (cbor_innermost_level levels).values) m.levels)
