use Rattle.std.proofs.Common.{Some, sym, ap, subst, ◌∙◌, map}
use Rattle.sval_json_read.specs.Lookups.{paired, members_of}
use Rattle.sval_json_read.specs.Nodes.{tokens_in}
use Rattle.sval_json_read.specs.SeenNodes.{seen_node}
use Rattle.sval_json_read.specs.SeenValues.{members_in}
use Rattle.sval_json_read.specs.ValueNodes.{AreOfMembers}
use Rattle.sval_json_read.proofs.FirstNodes.{some_nodes, no_members}
use Rattle.sval_json_read.proofs.InnerNodes.{object_two, object_within}
use Rattle.sval_json_read.proofs.json_ref.JsonRef.members.Goals as goal

pub bounds-0 : goal.bounds-0
bounds-0 c = some_nodes c.self.inside.text.now c.self.inside.nodes.now c.self.invariant

pub between_ends-requires : goal.between_ends-requires
between_ends-requires c = object_two c.self.inside.text.now c.self.inside.nodes.now c.self.invariant c.in-BeginObject.field-0 c.in-BeginObject.field-1 c.in-BeginObject.is

pub new-requires : goal.new-requires
new-requires c =
    let within = object_within c.self.inside.text.now c.self.inside.nodes.now c.self.invariant c.in-BeginObject.field-0 c.in-BeginObject.field-1 c.in-BeginObject.is in
    subst (AreOfMembers c.self.inside.text.now) (sym c.between_ends.ensures) within.are

pub returns-in-BeginObject : goal.returns-in-BeginObject
returns-in-BeginObject c =
    let within = object_within c.self.inside.text.now c.self.inside.nodes.now c.self.invariant c.in-BeginObject.field-0 c.in-BeginObject.field-1 c.in-BeginObject.is in
    ap Some (c.new.ensures ∙ ap (λ nodes. paired (members_in (tokens_in c.self.inside.text.now (map seen_node nodes)))) c.between_ends.ensures)
    ∙ ap members_of (sym within.is ∙ c.self.view_is)

pub returns-in_default : goal.returns-in_default
returns-in_default c = sym (no_members c.self.invariant c.in_default.not-BeginObject) ∙ ap members_of c.self.view_is
