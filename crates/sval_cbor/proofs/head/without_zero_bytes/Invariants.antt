use Rattle.std.proofs.Common.{◌≡◌, ◌≤◌, length}
use Rattle.sval_cbor.specs.Cbor.{without_zero_bytes}
use Rattle.sval_cbor.proofs.head.without_zero_bytes.Given as goal

abbrev pub invariant-loop-after : goal.invariant-loop-after
invariant-loop-after l = record {
  same : without_zero_bytes l.rest ≡ without_zero_bytes l.bytes;
  short : length l.rest ≤ length l.bytes;
}

abbrev pub decreases-loop-after : goal.decreases-loop-after
decreases-loop-after l = length l.rest
