use Rattle.std.proofs.Common.{◌-◌, length}
use Rattle.sval_json_read.specs.UnchangedNodes.{IsUnchanged}
use Rattle.sval_json_read.proofs.unchanged.Unchanged.first_of.Given as goal

abbrev pub invariant-loop-found : goal.invariant-loop-found
invariant-loop-found l = IsUnchanged l.text l.is_first l.nodes l.found

abbrev pub decreases-loop-found : goal.decreases-loop-found
decreases-loop-found l = length l.nodes - l.found.count
