use Rattle.std.proofs.Common.{ap, subst, ◌∙◌, map}
use Rattle.sval_io.specs.Sinks.{WritesAll}
use Rattle.sval_json_read.specs.Nodes.{tokens_in}
use Rattle.sval_json_read.specs.SeenNodes.{seen_node}
use Rattle.sval_json_read.specs.TokenScripts.{tokens_script}
use Rattle.sval_json_read.proofs.TokenScripts.{document_script}
use Rattle.sval_json_read.proofs.document.JsonDoc.write_script.Goals as goal

pub returns : goal.returns
returns g c = λ input document.
    let same = ap (λ row. tokens_in c.self.inside.text.now (map seen_node row)) c.as_slice.ensures.value ∙ c.self.view_is in
    subst (λ text. WritesAll c.print_nodes.result (g.K.Sink.told c.args.out.now) text (g.K.Sink.told c.print_nodes.new.out))
    (ap tokens_script same ∙ document_script input c.args.self.now document) c.print_nodes.ensures
