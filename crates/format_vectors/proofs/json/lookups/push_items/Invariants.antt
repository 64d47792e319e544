use Rattle.std.proofs.Common.{length}
use Rattle.std.specs.Prelude.{⊤}
use Rattle.format_vectors.proofs.json.lookups.push_items.Given as goal

abbrev pub invariant-loop-item : goal.invariant-loop-item
invariant-loop-item g l = ⊤

abbrev pub decreases-loop-item : goal.decreases-loop-item
decreases-loop-item g l = length l.left
