use Rattle.std.proofs.Common.{sym, ◌∙◌}
use Rattle.sval_script.proofs.FirstFields.{in_line, no_end, first_field}
use Rattle.sval_script.proofs.fields.Fields.next.Goals as goal

pub returns-in_default : goal.returns-in_default
returns-in_default c =
    let none = sym c.self.view_is ∙ in_line c.self.inside c.if-self.false ∙ no_end c.self.inside.rest.now c.in_default.ensures in
    rw none tt

pub returns : goal.returns
returns c =
    sym c.self.view_is ∙ in_line c.self.inside c.if-self.false ∙ first_field c.self.inside.rest.now c.in-Some.end c.in-Some.ensures
