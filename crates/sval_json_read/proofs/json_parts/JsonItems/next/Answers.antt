use Rattle.std.proofs.Common.{sym, ap, subst, ◌∙◌, ◌∷◌, map, drop}
use Rattle.sval_json_read.specs.Lookups.{values_listed}
use Rattle.sval_json_read.specs.Nodes.{tokens_in}
use Rattle.sval_json_read.specs.SeenNodes.{seen_node}
use Rattle.sval_json_read.specs.SeenValues.{value_in, values_in}
use Rattle.sval_json_read.specs.ValueNodes.{AreOfValue, AreOfValues}
use Rattle.sval_json_read.proofs.NextNodes.{first_item_by}
use Rattle.sval_json_read.proofs.json_parts.JsonItems.next.Goals as goal

pub split_at-requires : goal.split_at-requires
split_at-requires c = (first_item_by c.self.inside.text.now c.self.inside.nodes.now c.value_len.result c.self.invariant c.if-is_empty.ensures c.value_len.ensures).within

pub new-requires : goal.new-requires
new-requires c =
    subst (AreOfValue c.self.inside.text.now) (sym c.split_at.ensures.front)
    (first_item_by c.self.inside.text.now c.self.inside.nodes.now c.value_len.result c.self.invariant c.if-is_empty.ensures c.value_len.ensures).first

pub invariant_of-self : goal.invariant_of-self
invariant_of-self c =
    subst (AreOfValues c.self.inside.text.now) (sym c.split_at.ensures.back)
    (first_item_by c.self.inside.text.now c.self.inside.nodes.now c.value_len.result c.self.invariant c.if-is_empty.ensures c.value_len.ensures).behind

pub returns : goal.returns
returns c =
    let bytes = c.self.inside.text.now in
    let item = first_item_by bytes c.self.inside.nodes.now c.value_len.result c.self.invariant c.if-is_empty.ensures c.value_len.ensures in
    let first = c.new.ensures ∙ ap (λ nodes. value_in (tokens_in bytes (map seen_node nodes))) c.split_at.ensures.front in
    sym c.self.view_is ∙ item.is ∙ ap (λ value. value ∷ values_listed (values_in (tokens_in bytes (map seen_node (drop c.value_len.result c.self.inside.nodes.now))))) (sym first) ∙ ap (λ nodes. c.new.result ∷ values_listed (values_in (tokens_in bytes (map seen_node nodes)))) (sym c.split_at.ensures.back)
