use Rattle.std.proofs.Common.{◌<◌, length, arith, rules}
use Rattle.sval_json_read.specs.declared.node.Place.TheVariants.{Alone}
use Rattle.sval_json_read.specs.declared.node.Node.TheVariants.{Null}
use Rattle.sval_json_read.proofs.TokenScripts.{prints_on, prints_stop}
use Rattle.sval_json_read.proofs.node_script.print_nodes.Goals as goal

pub returns-in_err-print : goal.returns-in_err-print
returns-in_err-print g c =
    let within : c.loop-node.node-index < length c.args.nodes.now = omega arith in
    let stops = prints_stop c.args.nodes.now c.loop-node.node-index (Null Alone) c.loop-node.invariant within (g.K.Sink.told c.print.new.out) c.in_err-print.ensures in search rules

pub loop-node-preserved : goal.loop-node-preserved
loop-node-preserved g c =
    let within : c.loop-node.node-index < length c.args.nodes.now = omega arith in
    prints_on c.args.nodes.now c.loop-node.node-index (Null Alone) c.loop-node.invariant within (g.K.Sink.told c.print.new.out) c.in_ok-print.ensures
