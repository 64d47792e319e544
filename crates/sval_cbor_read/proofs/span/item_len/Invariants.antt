use Rattle.std.proofs.Common.{length, ◌-◌, ◌≡◌, ◌+◌, ◌≤◌, drop}
use Rattle.sval_cbor_read.specs.NodeSpans.{cbor_span}
use Rattle.sval_cbor_read.proofs.span.item_len.Given as goal

abbrev pub invariant-loop-at : goal.invariant-loop-at
invariant-loop-at l = (l.at + cbor_span l.depth (drop l.at l.nodes) ≡ cbor_span 0 l.nodes) × (l.depth ≤ l.at) × (l.at ≤ length l.nodes)

abbrev pub decreases-loop-at : goal.decreases-loop-at
decreases-loop-at l = length l.nodes - l.at
