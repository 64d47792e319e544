use Rattle.std.proofs.Common.{Some, sym, ap, subst, ◌∙◌, map}
use Rattle.sval_json_read.specs.Lookups.{values_listed, items_of}
use Rattle.sval_json_read.specs.Nodes.{tokens_in}
use Rattle.sval_json_read.specs.SeenNodes.{seen_node}
use Rattle.sval_json_read.specs.SeenValues.{values_in}
use Rattle.sval_json_read.specs.ValueNodes.{AreOfValues}
use Rattle.sval_json_read.proofs.FirstNodes.{some_nodes, no_items}
use Rattle.sval_json_read.proofs.InnerNodes.{array_two, array_within}
use Rattle.sval_json_read.proofs.json_ref.JsonRef.items.Goals as goal

pub bounds-0 : goal.bounds-0
bounds-0 c = some_nodes c.self.inside.text.now c.self.inside.nodes.now c.self.invariant

pub between_ends-requires : goal.between_ends-requires
between_ends-requires c = array_two c.self.inside.text.now c.self.inside.nodes.now c.self.invariant c.in-BeginArray.field-0 c.in-BeginArray.field-1 c.in-BeginArray.is

pub new-requires : goal.new-requires
new-requires c =
    let within = array_within c.self.inside.text.now c.self.inside.nodes.now c.self.invariant c.in-BeginArray.field-0 c.in-BeginArray.field-1 c.in-BeginArray.is in
    subst (AreOfValues c.self.inside.text.now) (sym c.between_ends.ensures) within.are

pub returns-in-BeginArray : goal.returns-in-BeginArray
returns-in-BeginArray c =
    let within = array_within c.self.inside.text.now c.self.inside.nodes.now c.self.invariant c.in-BeginArray.field-0 c.in-BeginArray.field-1 c.in-BeginArray.is in
    ap Some (c.new.ensures ∙ ap (λ nodes. values_listed (values_in (tokens_in c.self.inside.text.now (map seen_node nodes)))) c.between_ends.ensures)
    ∙ ap items_of (sym within.is ∙ c.self.view_is)

pub returns-in_default : goal.returns-in_default
returns-in_default c = sym (no_items c.self.invariant c.in_default.not-BeginArray) ∙ ap items_of c.self.view_is
