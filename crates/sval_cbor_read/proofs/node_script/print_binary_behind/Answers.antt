use Rattle.std.proofs.Common.{drop, subst}
use Rattle.sval_io.specs.Sinks.{WritesAll}
use Rattle.sval_cbor_read.proofs.NodeScripts.{binary_lines_are}
use Rattle.sval_cbor_read.proofs.node_script.print_binary_behind.Goals as goal

pub returns : goal.returns
returns g c =
    subst (λ lines. WritesAll c.print_string.result (g.K.Sink.told c.args.out.now) lines (g.K.Sink.told c.print_string.new.out))
    (binary_lines_are c.args.head.number (drop c.args.head.next c.args.bytes.now) c.content_behind-content.result.now c.requires.some c.content_behind-content.ensures) c.print_string.ensures
