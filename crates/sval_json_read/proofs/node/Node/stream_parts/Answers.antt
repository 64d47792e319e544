use Rattle.sval_core.proofs.Emissions.{passes_on}
use Rattle.sval_json_read.specs.SeenNodes.{seen_node}
use Rattle.sval_json_read.proofs.NodeStreams.{stops_at_begin, stops_at_own, emits_end}
use Rattle.sval_json_read.proofs.node.Node.stream_parts.Goals as goal

pub returns-in_err-begin : goal.returns-in_err-begin
returns-in_err-begin g c =
    passes_on c.from_residual.result c.from_residual.ensures.0 (stops_at_begin c.args.text.now (seen_node c.args.self).place (seen_node c.args.self).kept c.in_err-begin.ensures)

pub returns-in_err-make : goal.returns-in_err-make
returns-in_err-make g c =
    passes_on c.from_residual-in_err-make.result c.from_residual-in_err-make.ensures.0
    (stops_at_own c.args.text.now (seen_node c.args.self).place (seen_node c.args.self).kept c.in_ok-begin.ensures c.in_err-make.ensures)

pub returns : goal.returns
returns g c =
    emits_end c.args.text.now (seen_node c.args.self).place (seen_node c.args.self).kept c.end.result (g.S.Stream.standing c.end.new.stream)
    c.in_ok-begin.ensures c.in_ok-make.ensures c.end.ensures
