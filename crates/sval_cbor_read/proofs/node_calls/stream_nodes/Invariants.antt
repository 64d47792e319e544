use Rattle.std.proofs.Common.{drop}
use Rattle.sval_cbor_read.proofs.NodeStreams.{IsStreamedUpTo}
use Rattle.sval_cbor_read.proofs.node_calls.stream_nodes.Given as goal

abbrev pub invariant-loop-node : goal.invariant-loop-node
invariant-loop-node g l = IsStreamedUpTo g.S.Stream.law (g.S.Stream.standing l.initial.stream) (g.S.Stream.standing l.stream) l.bytes l.nodes (drop l.node-index l.nodes)
