use Rattle.std.specs.Prelude.{drop}
use Rattle.std.proofs.Common.{sym, subst}
use Rattle.sval_io.specs.Sinks.{WritesAll}
use Rattle.sval_cbor_read.specs.SeenNodes.{node_offset, node_own_calls}
use Rattle.sval_cbor_read.specs.ItemScripts.{script_within}
use Rattle.sval_cbor_read.proofs.node.Node.print_own.Goals as goal

pub returns-in-EndBinary : goal.returns-in-EndBinary
returns-in-EndBinary g c =
    subst (λ kind. WritesAll c.write_in_place-in-EndBinary.result (g.K.Sink.told c.args.out.now) (script_within c.args.size (node_own_calls kind (drop (node_offset c.args.self) c.args.bytes.now))) (g.K.Sink.told c.write_in_place-in-EndBinary.new.sink))
    (sym c.in-EndBinary.is) c.write_in_place-in-EndBinary.ensures.writes
