use Rattle.std.proofs.Common.{length, ◌-◌}
use Rattle.sval_cbor_read.proofs.Bignums.{AreReadUpTo}
use Rattle.sval_cbor_read.proofs.bignum.read_pieces.Given as goal

abbrev pub invariant-loop-at : goal.invariant-loop-at
invariant-loop-at l = AreReadUpTo l.bytes l.from l.at l.number

abbrev pub decreases-loop-at : goal.decreases-loop-at
decreases-loop-at l = length l.bytes - l.at
