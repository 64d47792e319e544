use Rattle.std.proofs.Common.{true, ap, subst, ◌∙◌, map}
use Rattle.sval_io.specs.Sinks.{WritesAll}
use Rattle.sval_json_read.specs.Nodes.{tokens_in}
use Rattle.sval_json_read.specs.SeenNodes.{seen_node}
use Rattle.sval_json_read.specs.TokenTexts.{tokens_text}
use Rattle.sval_json_read.proofs.TokenTexts.{document_text}
use Rattle.sval_json_read.proofs.document.JsonDoc.write_json.Goals as goal

pub returns-clause-tokens : goal.returns-clause-tokens
returns-clause-tokens g c =
    let same = ap (λ row. tokens_in c.self.inside.text.now (map seen_node row)) c.as_slice.ensures.value ∙ c.self.view_is in
    subst (λ tokens. WritesAll c.write_nodes.result (g.K.Sink.told c.args.out.now) (tokens_text true tokens) (g.K.Sink.told c.write_nodes.new.out)) same c.write_nodes.ensures

pub returns-clause-json : goal.returns-clause-json
returns-clause-json g c = λ input document json shape.
    let same = ap (λ row. tokens_in c.self.inside.text.now (map seen_node row)) c.as_slice.ensures.value ∙ c.self.view_is in
    let wrote = subst (λ tokens. WritesAll c.write_nodes.result (g.K.Sink.told c.args.out.now) (tokens_text true tokens) (g.K.Sink.told c.write_nodes.new.out)) same c.write_nodes.ensures in
    subst (λ text. WritesAll c.write_nodes.result (g.K.Sink.told c.args.out.now) text (g.K.Sink.told c.write_nodes.new.out))
    (document_text input c.args.self.now document json shape) wrote
