use Rattle.std.specs.Prelude.{◌<◌, length}
use Rattle.std.proofs.Common.{arith, drop_of_length-le}
use Rattle.sval_json.specs.WriterLaw.{writer_view}
use Rattle.sval_json.proofs.Combined.{stops_as}
use Rattle.sval_cbor_read.specs.declared.node.Place.TheVariants.{Alone}
use Rattle.sval_cbor_read.specs.declared.node.Kind.TheVariants.{Item}
use Rattle.sval_cbor_read.specs.declared.node.Node.{Node}
use Rattle.sval_cbor_read.proofs.JoinedItems.{nodes_begin, nodes_on, nodes_stop, nodes_end}
use Rattle.sval_cbor_read.proofs.node_json.write_each.Goals as goal

pub loop-node-init : goal.loop-node-init
loop-node-init g c = nodes_begin (writer_view g.K.Sink.told c.args.writer.now) c.args.bytes.now c.args.nodes.now c.new-joined.result c.requires.start c.new-joined.ensures c.requires.stand

pub returns-in_err-write_next : goal.returns-in_err-write_next
returns-in_err-write_next g c =
    let d : Node = record { low = 0; high = 0; kind = Item; place = Alone } in
    let s = c.loop-node.invariant in
    let within : c.loop-node.node-index < length c.args.nodes.now = omega arith in
    let stop = c.in_err-write_next.ensures (writer_view g.K.Sink.told c.args.writer.now) s.calls c.requires.style s.made in
    stops_as c.from_residual.result c.from_residual.ensures.0 (nodes_stop c.args.nodes.now c.loop-node.node-index d s within stop)

pub loop-node-preserved : goal.loop-node-preserved
loop-node-preserved g c =
    let d : Node = record { low = 0; high = 0; kind = Item; place = Alone } in
    let s = c.loop-node.invariant in
    let within : c.loop-node.node-index < length c.args.nodes.now = omega arith in
    let made = c.in_ok-write_next.ensures (writer_view g.K.Sink.told c.args.writer.now) s.calls c.requires.style s.made in
    nodes_on c.args.nodes.now c.loop-node.node-index d s within made

pub returns-in-Some : goal.returns-in-Some
returns-in-Some g c = nodes_end (drop_of_length-le c.args.nodes.now (omega (arith, c.loop-node-test.false))) (writer_view g.K.Sink.told c.pass_on.new.writer) c.pass_on.result c.in-Some.is c.loop-node.invariant c.pass_on.ensures.does
