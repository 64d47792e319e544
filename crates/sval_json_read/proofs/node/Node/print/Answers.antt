use Rattle.std.proofs.Common.{rules, ◌∙◌, subst}
use Rattle.sval_io.specs.Sinks.{WritesAll}
use Rattle.sval_json_read.specs.Nodes.{placed_in}
use Rattle.sval_json_read.specs.SeenNodes.{seen_node}
use Rattle.sval_json_read.specs.TokenScripts.{placed_lines}
use Rattle.sval_json_read.proofs.TokenScripts.{joined_is}
use Rattle.sval_json_read.proofs.node.Node.print.Goals as goal

pub returns-in-Ok : goal.returns-in-Ok
returns-in-Ok g c =
    let lines = placed_lines (placed_in c.args.text.now (seen_node c.args.self)) in
    subst (λ bytes. WritesAll c.write_all.result (g.K.Sink.told c.args.out.now) bytes (g.K.Sink.told c.write_all.new.sink))
    (c.as_slice.ensures ∙ joined_is c.new-joined.result c.print_lines.new.out lines (search rules) c.in-Ok.ensures) c.write_all.ensures.writes
