use Rattle.std.proofs.Common.{◌<◌, length, arith}
use Rattle.sval_core.proofs.Emissions.{passes_on}
use Rattle.sval_cbor_read.specs.declared.node.Place.TheVariants.{Alone}
use Rattle.sval_cbor_read.specs.declared.node.Kind.TheVariants.{Item}
use Rattle.sval_cbor_read.proofs.NodeStreams.{node-step, node-stop}
use Rattle.sval_cbor_read.proofs.node_calls.stream_nodes.Goals as goal

pub returns-in_err-stream : goal.returns-in_err-stream
returns-in_err-stream g c =
    let within : c.loop-node.node-index < length c.args.nodes.now = omega arith in
    passes_on c.from_residual.result c.from_residual.ensures.0 (node-stop c.args.nodes.now c.loop-node.node-index (record { low = 0; high = 0; kind = Item; place = Alone }) _ c.loop-node.invariant within c.in_err-stream.ensures)

pub loop-node-preserved : goal.loop-node-preserved
loop-node-preserved g c =
    let within : c.loop-node.node-index < length c.args.nodes.now = omega arith in
    node-step c.args.nodes.now c.loop-node.node-index (record { low = 0; high = 0; kind = Item; place = Alone }) _ c.loop-node.invariant within c.in_ok-stream.ensures
