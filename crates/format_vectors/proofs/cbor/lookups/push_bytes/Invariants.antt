use Rattle.std.proofs.Common.{length}
use Rattle.std.specs.Prelude.{⊤}
use Rattle.format_vectors.proofs.cbor.lookups.push_bytes.Given as goal

abbrev pub invariant-loop-slice : goal.invariant-loop-slice
invariant-loop-slice g l = ⊤

abbrev pub decreases-loop-slice : goal.decreases-loop-slice
decreases-loop-slice g l = length l.left
