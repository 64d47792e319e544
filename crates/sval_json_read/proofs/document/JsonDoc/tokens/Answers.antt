use Rattle.std.proofs.Common.{sym, ap, subst, ◌∙◌, map}
use Rattle.sval_json_read.specs.Nodes.{tokens_in}
use Rattle.sval_json_read.specs.SeenNodes.{seen_node, AreKeptOf}
use Rattle.sval_json_read.proofs.document.JsonDoc.tokens.Goals as goal

pub new-requires : goal.new-requires
new-requires c = subst (AreKeptOf c.self.inside.text.now) (sym c.as_slice.ensures.value) c.self.invariant.kept

pub returns : goal.returns
returns c = c.new.ensures ∙ ap (λ row. tokens_in c.self.inside.text.now (map seen_node row)) c.as_slice.ensures.value ∙ c.self.view_is
