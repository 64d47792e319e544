use Rattle.std.specs.List.{between}
use Rattle.std.proofs.Common.{◌+◌, sym, ap, ◌∙◌, Some}
use Rattle.sval_json_read.specs.Lookups.{json_text_of}
use Rattle.sval_json_read.specs.SeenValues.{text_in}
use Rattle.sval_json_read.proofs.FirstNodes.{some_nodes, begins}
use Rattle.sval_json_read.proofs.json_ref.JsonRef.as_text.Goals as goal

pub bounds-0 : goal.bounds-0
bounds-0 c = some_nodes c.self.inside.text.now c.self.inside.nodes.now c.self.invariant

pub returns-in-Text : goal.returns-in-Text
returns-in-Text c = ap Some (c.new.ensures ∙ ap text_in (c.range.ensures.value ∙ ap (λ n. between n (n + c.in-Text.length) c.self.inside.text.now) c.get-from.ensures)) ∙ ap json_text_of (sym (begins c.self.invariant c.in-Text.is) ∙ c.self.view_is)
