use Rattle.std.proofs.Common.{◌≡◌, length}
use Rattle.sval_cbor.specs.SeenNumber.{unsigned_form}
use Rattle.sval_cbor.proofs.number.without_zeros.Given as goal

abbrev pub invariant-loop-rest : goal.invariant-loop-rest
invariant-loop-rest l = unsigned_form l.rest ≡ unsigned_form l.text

abbrev pub decreases-loop-rest : goal.decreases-loop-rest
decreases-loop-rest l = length l.rest
