use Rattle.std.proofs.Common.{◌-◌, drop, length}
use Rattle.sval_json_read.specs.TextParts.{IsReadyPart}
use Rattle.sval_json_read.proofs.NodeTexts.{AreWrittenUpTo}
use Rattle.sval_json_read.proofs.node_text.write_nodes.Given as goal

abbrev pub invariant-loop-index : goal.invariant-loop-index
invariant-loop-index g l = record {
  ready : IsReadyPart l.text l.ready;
  are : AreWrittenUpTo (g.K.Sink.told l.initial.out) l.text l.nodes (drop l.index l.nodes) l.is_first l.joined (g.K.Sink.told l.out);
}

abbrev pub decreases-loop-index : goal.decreases-loop-index
decreases-loop-index g l = length l.nodes - l.index
