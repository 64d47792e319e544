use Rattle.std.specs.Prelude.{get_or}
use Rattle.std.proofs.Common.{◌<◌, length, sym, subst, rules}
use Rattle.sval_cbor_read.specs.declared.node.Place.TheVariants.{Alone}
use Rattle.sval_cbor_read.specs.declared.node.Kind.TheVariants.{Item}
use Rattle.sval_cbor_read.specs.declared.node.Node.{Node}
use Rattle.sval_cbor_read.specs.ItemScripts.{IsStringSize}
use Rattle.sval_cbor_read.proofs.NodeScripts.{ArePrintedUpTo, prints_on, prints_stop}
use Rattle.sval_cbor_read.proofs.node_script.print_nodes.Goals as goal

pub returns-in_err-print : goal.returns-in_err-print
returns-in_err-print g c =
    let left = c.loop-rest.rest.now in
    let d : Node = record { low = 0; high = 0; kind = Item; place = Alone } in
    let some : 0 < length left = search rules in
    let size = subst (λ rest. IsStringSize c.args.bytes.now (get_or left 0 d) rest c.string_size-size.result) c.behind_first-rest.ensures c.string_size-size.ensures in
    let stops = prints_stop left d c.loop-rest.invariant some c.string_size-size.result (g.K.Sink.told c.print.new.out) size c.in_err-print.ensures in search rules

pub loop-rest-preserved : goal.loop-rest-preserved
loop-rest-preserved g c =
    let left = c.loop-rest.rest.now in
    let d : Node = record { low = 0; high = 0; kind = Item; place = Alone } in
    let some : 0 < length left = search rules in
    let size = subst (λ rest. IsStringSize c.args.bytes.now (get_or left 0 d) rest c.string_size-size.result) c.behind_first-rest.ensures c.string_size-size.ensures in
    subst (λ rest. ArePrintedUpTo (g.K.Sink.told c.args.out.now) c.args.bytes.now c.args.nodes.now rest (g.K.Sink.told c.print.new.out)) (sym c.behind_first-rest.ensures)
    (prints_on left d c.loop-rest.invariant some c.string_size-size.result (g.K.Sink.told c.print.new.out) size c.in_ok-print.ensures)
