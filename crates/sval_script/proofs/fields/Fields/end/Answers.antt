use Rattle.std.proofs.Common.{sym, ap, ◌∙◌}
use Rattle.sval_script.specs.Lines.{complete}
use Rattle.sval_script.specs.NextFields.{call_before}
use Rattle.sval_script.proofs.FirstFields.{in_line, not_over}
use Rattle.sval_script.proofs.fields.Fields.end.Goals as goal

pub returns-else-self : goal.returns-else-self
returns-else-self c call =
    ap (call_before (complete call)) (sym c.self.view_is ∙ in_line c.self.inside c.if-self.false) ∙ not_over c.self.inside.rest.now call
