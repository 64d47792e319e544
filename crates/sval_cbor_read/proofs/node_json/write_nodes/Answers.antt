use Rattle.std.proofs.Common.{rules}
use Rattle.sval_cbor_read.specs.SeenNodes.{streamed_items}
use Rattle.sval_cbor_read.proofs.JoinedItems.{steps_stopped}
use Rattle.sval_cbor_read.proofs.node_json.write_nodes.Goals as goal

-- the writer began with the sink that was handed in, under a name of its own
pub returns-in-Err : goal.returns-in-Err
returns-in-Err g c =
    let after = steps_stopped g.K.Sink.told (record c.args.out { ghost_name = _ }) (streamed_items c.args.bytes.now c.args.nodes.now) c.new-writer.result c.write_each.new.writer c.error.result c.new-writer.ensures c.in-Err.ensures c.error.ensures in
    let steps = after.0 in
    let name = after.1 in
    search rules
