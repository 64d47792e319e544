use Rattle.std.proofs.Common.{drop}
use Rattle.sval_json_read.proofs.TokenScripts.{ArePrintedUpTo}
use Rattle.sval_json_read.proofs.node_script.print_nodes.Given as goal

abbrev pub invariant-loop-node : goal.invariant-loop-node
invariant-loop-node g l = ArePrintedUpTo (g.K.Sink.told l.initial.out) l.text l.nodes (drop l.node-index l.nodes) (g.K.Sink.told l.out)
