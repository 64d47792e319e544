use Rattle.std.proofs.Common.{drop}
use Rattle.sval_json.specs.WriterLaw.{writer_view}
use Rattle.sval_cbor_read.proofs.JoinedItems.{AreWrittenTo}
use Rattle.sval_cbor_read.proofs.node_json.write_each.Given as goal

-- the calls of the nodes before these were made
abbrev pub invariant-loop-node : goal.invariant-loop-node
invariant-loop-node g l = AreWrittenTo (writer_view g.K.Sink.told l.initial.writer) l.bytes l.nodes (drop l.node-index l.nodes) (writer_view g.K.Sink.told l.writer) l.is_first l.joined
