use Rattle.std.proofs.Common.{length}
use Rattle.std.specs.Prelude.{⊤}
use Rattle.format_vectors.proofs.json.tokens.push_tokens.Given as goal

abbrev pub invariant-loop-token : goal.invariant-loop-token
invariant-loop-token g l = ⊤

abbrev pub decreases-loop-token : goal.decreases-loop-token
decreases-loop-token g l = length l.left
