use Rattle.std.proofs.Common.{sym, ap, subst, ◌∙◌}
use Rattle.sval_cbor_read.specs.CborParts.{IsCborPart}
use Rattle.sval_cbor_read.specs.CborValues.{cbor_value_in}
use Rattle.sval_cbor_read.specs.CallSpans.{item_by_itself}
use Rattle.sval_cbor_read.specs.SeenNodes.{streamed_items}
use Rattle.sval_cbor_read.proofs.PartItems.{part_of_item, part_value}
use Rattle.sval_cbor_read.proofs.cbor_ref.CborRef.part.Goals as goal

pub returns : goal.returns
returns c =
    let bytes = c.self.inside.bytes.now in
    let nodes = c.self.inside.nodes.now in
    let part = subst (IsCborPart (item_by_itself (streamed_items bytes nodes))) c.self.view_is (part_of_item bytes nodes c.self.invariant) in
    record {
      part = subst (λ made. IsCborPart made c.args.self.now) (sym c.new.ensures) part;
      value = ap cbor_value_in c.new.ensures ∙ part_value bytes nodes c.self.invariant ∙ c.self.view_is;
    }
