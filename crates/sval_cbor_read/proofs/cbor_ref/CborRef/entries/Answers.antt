use Rattle.std.proofs.Common.{sym, ap, ◌∙◌, Some, subst}
use Rattle.sval_cbor_read.specs.CborLookups.{cbor_entries_of, cbor_values_listed, cbor_paired}
use Rattle.sval_cbor_read.specs.CborValues.{cbor_values_in}
use Rattle.sval_cbor_read.specs.SeenNodes.{streamed_items}
use Rattle.sval_cbor_read.specs.SeenFound.{level_behind, AreInItem}
use Rattle.sval_cbor_read.proofs.CborNext.{behind_within, within_item}
use Rattle.sval_cbor_read.proofs.CborFound.{some_node, no_entries}
use Rattle.sval_cbor_read.proofs.cbor_ref.CborRef.entries.Goals as goal

pub new-requires : goal.new-requires
new-requires c = subst (AreInItem c.self.inside.bytes.now) (sym c.behind_first.ensures) (behind_within c.self.inside.bytes.now c.self.inside.nodes.now 1 (within_item c.self.invariant))

pub behind_first-requires : goal.behind_first-requires
behind_first-requires c = some_node c.self.inside.nodes.now c.self.invariant

pub returns-in-Map : goal.returns-in-Map
returns-in-Map c = ap Some (c.new.ensures ∙ ap (λ nodes. cbor_paired (cbor_values_listed (cbor_values_in (streamed_items c.self.inside.bytes.now nodes)))) c.behind_first.ensures) ∙ ap cbor_entries_of (sym c.in-Map.ensures ∙ c.self.view_is)

pub returns-in_default : goal.returns-in_default
returns-in_default c =
    sym (no_entries c.first_found.result (level_behind c.self.inside.bytes.now c.self.inside.nodes.now) c.in_default.not-Map) ∙ ap cbor_entries_of (sym c.first_found.ensures ∙ c.self.view_is)
