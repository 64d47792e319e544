use Rattle.std.specs.List.{between}
use Rattle.std.proofs.Common.{◌≡◌, ◌+◌, true, sym, ap, subst, ◌∙◌}
use Rattle.sval_json.specs.Digits.{is_json_number}
use Rattle.sval_json_read.specs.Lookups.{json_number_of}
use Rattle.sval_json_read.proofs.FirstNodes.{some_nodes, kept, no_number}
use Rattle.sval_json_read.proofs.json_ref.JsonRef.as_number.Goals as goal

pub bounds-0 : goal.bounds-0
bounds-0 c = some_nodes c.self.inside.text.now c.self.inside.nodes.now c.self.invariant

pub returns-in_default-clause-number : goal.returns-in_default-clause-number
returns-in_default-clause-number c = sym (no_number c.self.invariant c.in_default.not-Number) ∙ ap json_number_of c.self.view_is

pub returns-in-Number-clause-proper : goal.returns-in-Number-clause-proper
returns-in-Number-clause-proper c = subst (λ text. is_json_number text ≡ true) (sym (c.range.ensures.value ∙ ap (λ n. between n (n + c.in-Number.length) c.self.inside.text.now) c.get-from.ensures)) (kept c.self.invariant c.in-Number.is).proper
