use Rattle.std.proofs.Common.{ap, subst, ◌∙◌}
use Rattle.sval_io.specs.Sinks.{WritesAll}
use Rattle.sval_cbor_read.specs.SeenNodes.{streamed_items}
use Rattle.sval_cbor_read.specs.ItemScripts.{item_script}
use Rattle.sval_cbor_read.proofs.ItemScripts.{document_script}
use Rattle.sval_cbor_read.proofs.document.CborDoc.write_script.Goals as goal

pub returns : goal.returns
returns g c = λ bytes rest tree item is.
    let same = ap (λ nodes. streamed_items c.self.inside.bytes.now nodes) c.as_slice.ensures.value ∙ c.self.view_is ∙ is in
    subst (λ lines. WritesAll c.print_nodes.result (g.K.Sink.told c.args.out.now) lines (g.K.Sink.told c.print_nodes.new.out))
    (ap item_script same ∙ document_script item) c.print_nodes.ensures
