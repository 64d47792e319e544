use Rattle.std.proofs.Common.{◌<◌, length, arith}
use Rattle.sval_cbor_read.specs.declared.node.Place.TheVariants.{Alone}
use Rattle.sval_cbor_read.specs.declared.node.Kind.TheVariants.{Item}
use Rattle.sval_cbor_read.proofs.NodeScripts.{measured_all}
use Rattle.sval_cbor_read.proofs.node_script.chunks_len.Goals as goal

pub returns-in-None : goal.returns-in-None
returns-in-None c =
    let within : c.loop-node.node-index < length c.args.nodes.now = omega arith in
    measured_all c.args.nodes.now c.loop-node.node-index (record { low = 0; high = 0; kind = Item; place = Alone }) c.loop-node.invariant.0 within c.in-None.ensures
