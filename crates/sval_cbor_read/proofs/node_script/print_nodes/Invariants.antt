use Rattle.std.proofs.Common.{length}
use Rattle.sval_cbor_read.proofs.NodeScripts.{ArePrintedUpTo}
use Rattle.sval_cbor_read.proofs.node_script.print_nodes.Given as goal

abbrev pub invariant-loop-rest : goal.invariant-loop-rest
invariant-loop-rest g l = ArePrintedUpTo (g.K.Sink.told l.initial.out) l.bytes l.nodes l.rest (g.K.Sink.told l.out)

abbrev pub decreases-loop-rest : goal.decreases-loop-rest
decreases-loop-rest g l = length l.rest
