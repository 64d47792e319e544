use Rattle.std.proofs.Common.{sym, ap, ◌∙◌}
use Rattle.sval_json_read.specs.Lookups.{json_truth_of}
use Rattle.sval_json_read.proofs.FirstNodes.{some_nodes, no_truth}
use Rattle.sval_json_read.proofs.json_ref.JsonRef.as_bool.Goals as goal

pub bounds-0 : goal.bounds-0
bounds-0 c = some_nodes c.self.inside.text.now c.self.inside.nodes.now c.self.invariant

pub returns-in_default : goal.returns-in_default
returns-in_default c = sym (no_truth c.self.invariant c.in_default.not-Bool) ∙ ap json_truth_of c.self.view_is
