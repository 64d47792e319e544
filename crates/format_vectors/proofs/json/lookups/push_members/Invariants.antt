use Rattle.std.proofs.Common.{length}
use Rattle.std.specs.Prelude.{⊤}
use Rattle.format_vectors.proofs.json.lookups.push_members.Given as goal

abbrev pub invariant-loop-member : goal.invariant-loop-member
invariant-loop-member g l = ⊤

abbrev pub decreases-loop-member : goal.decreases-loop-member
decreases-loop-member g l = length l.left
