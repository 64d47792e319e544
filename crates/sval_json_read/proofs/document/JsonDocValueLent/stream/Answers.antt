use Rattle.sval_core.specs.OneValue.{IsOneValue}
use Rattle.sval_json_read.proofs.WholeDocuments.{document_is_whole}
use Rattle.std.proofs.Common.{ap, subst, ◌∙◌, map}
use Rattle.sval_core.specs.Law.{Emits}
use Rattle.sval_core.specs.Values.{makes}
use Rattle.sval_json_read.specs.Calls.{document_calls}
use Rattle.sval_json_read.specs.Nodes.{streamed}
use Rattle.sval_json_read.specs.SeenNodes.{seen_node}
use Rattle.sval_json_read.proofs.KeptNodes.{streamed-calls}
use Rattle.sval_json_read.proofs.document.JsonDocValueLent.stream.Goals as goal

pub returns-then-skip_value : goal.returns-then-skip_value
returns-then-skip_value g c =
    let whole = subst (λ doc. IsOneValue (makes (document_calls doc))) c.self.view_is (document_is_whole c.self.inside.text.now c.self.inside.nodes.items c.self.invariant) in
    c.skip_value.ensures.skipped c.if-skip_value.true (makes (document_calls c.args.self.now)) whole

pub returns : goal.returns
returns g c =
    let text = c.self.inside.text.now in
    let same = ap (λ row. streamed text (map seen_node row)) c.as_slice-nodes.ensures.value ∙ streamed-calls text (map seen_node c.self.inside.nodes.items) ∙ ap document_calls c.self.view_is in
    rw (← c.skip_value.ensures.left c.if-skip_value.false)
    (subst (λ calls. Emits g.S.Stream.law c.stream_nodes.result (g.S.Stream.standing c.skip_value.new.self) (makes calls) (g.S.Stream.standing c.stream_nodes.new.stream)) same c.stream_nodes.ensures)
