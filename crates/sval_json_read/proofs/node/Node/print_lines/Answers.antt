use Rattle.std.specs.List.{between}
use Rattle.std.proofs.Common.{◌++◌, ◌+◌, ◌∙◌, ap, sym, subst}
use Rattle.sval_io.specs.Sinks.{WritesAll}
use Rattle.sval_json_read.specs.Nodes.{placed_in}
use Rattle.sval_json_read.specs.SeenNodes.{node_place, seen_node}
use Rattle.sval_json_read.specs.TokenScripts.{line_before, line_behind, number_lines, placed_lines}
use Rattle.sval_json_read.proofs.node.Node.print_lines.Goals as goal

pub returns-in-Number : goal.returns-in-Number
returns-in-Number g c =
    let place = node_place c.in-Number.place in
    let old = g.K.Sink.told c.args.out.now in
    let new = g.K.Sink.told c.print_number.new.out in
    subst (λ node. WritesAll c.print_number.result old (placed_lines (placed_in c.args.text.now (seen_node node))) new) (sym c.in-Number.is)
    (subst (λ number. WritesAll c.print_number.result old (line_before place ++ (number_lines number ++ line_behind place)) new) (c.range.ensures.value ∙ ap (λ n. between n (n + c.in-Number.length) c.args.text.now) c.get-from.ensures) c.print_number.ensures)

pub returns-in-BeginArray : goal.returns-in-BeginArray
returns-in-BeginArray g c =
    subst (λ node. WritesAll c.print_begin.result (g.K.Sink.told c.args.out.now) (placed_lines (placed_in c.args.text.now (seen_node node))) (g.K.Sink.told c.print_begin.new.out)) (sym c.in-BeginArray.is)
    c.print_begin.ensures

pub returns-in-BeginObject : goal.returns-in-BeginObject
returns-in-BeginObject g c =
    subst (λ node. WritesAll c.print_begin-in-BeginObject.result (g.K.Sink.told c.args.out.now) (placed_lines (placed_in c.args.text.now (seen_node node))) (g.K.Sink.told c.print_begin-in-BeginObject.new.out)) (sym c.in-BeginObject.is)
    c.print_begin-in-BeginObject.ensures
