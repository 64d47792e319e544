use Rattle.std.proofs.Common.{◌<◌, ◌≤◌, ◌+◌, drop}
use Rattle.sval_cbor_read.specs.CallSpans.{until_closed}
use Rattle.sval_cbor_read.specs.SeenNodes.{streamed_items}
use Rattle.sval_cbor_read.proofs.PartStreams.{IsStreamedWithin}
use Rattle.sval_cbor_read.proofs.cbor_part.stream_to_end.Given as goal

-- the calls of the nodes so far were made, and something is open
abbrev pub invariant-loop-node : goal.invariant-loop-node
invariant-loop-node g l = record {
  streamed : IsStreamedWithin g.S.Stream.law (g.S.Stream.standing l.initial.stream) (g.S.Stream.standing l.stream) l.bytes (until_closed 1 (streamed_items l.bytes l.nodes)) l.depth (drop l.node-index l.nodes);
  open_left : 0 < l.depth;
  few : l.depth ≤ l.node-index + 1;
}
