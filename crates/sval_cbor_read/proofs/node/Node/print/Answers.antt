use Rattle.std.proofs.Common.{rules, ◌∙◌, subst}
use Rattle.sval_io.specs.Sinks.{WritesAll}
use Rattle.sval_script.proofs.PrintedPieces.{joined_is}
use Rattle.sval_cbor_read.specs.SeenNodes.{cbor_node_calls}
use Rattle.sval_cbor_read.specs.ItemScripts.{script_within}
use Rattle.sval_cbor_read.proofs.node.Node.print.Goals as goal

pub returns-in-Ok : goal.returns-in-Ok
returns-in-Ok g c =
    let lines = script_within c.args.size (cbor_node_calls c.args.bytes.now c.args.self) in
    subst (λ bytes. WritesAll c.write_all.result (g.K.Sink.told c.args.out.now) bytes (g.K.Sink.told c.write_all.new.sink))
    (c.as_slice.ensures ∙ joined_is c.new-joined.result c.print_lines.new.out lines (search rules) c.in-Ok.ensures) c.write_all.ensures.writes
