use Rattle.std.proofs.Common.{sym, ap, subst, ◌∙◌, map}
use Rattle.sval_json_read.specs.Nodes.{tokens_in}
use Rattle.sval_json_read.specs.SeenNodes.{seen_node}
use Rattle.sval_json_read.specs.SeenValues.{value_in}
use Rattle.sval_json_read.specs.ValueNodes.{AreOfValue}
use Rattle.sval_json_read.proofs.KeptDocuments.{root-nodes}
use Rattle.sval_json_read.proofs.document.JsonDoc.root.Goals as goal

pub new-requires : goal.new-requires
new-requires c = subst (AreOfValue c.self.inside.text.now) (sym c.as_slice.ensures.value) (root-nodes c.self.inside.text.now c.self.inside.nodes.items c.self.invariant)

pub returns : goal.returns
returns c = c.new.ensures ∙ ap (λ row. value_in (tokens_in c.self.inside.text.now (map seen_node row))) c.as_slice.ensures.value ∙ ap value_in c.self.view_is
