use Rattle.std.proofs.Common.{rules}
use Rattle.sval_json_read.specs.Nodes.{placed_in}
use Rattle.sval_json_read.specs.SeenNodes.{seen_node}
use Rattle.sval_json_read.specs.TokenTexts.{placed_text}
use Rattle.sval_json_read.proofs.JoinedParts.{stops_before}
use Rattle.sval_json_read.proofs.NodeTexts.{both_written}
use Rattle.sval_json_read.proofs.node.Node.write_behind.Goals as goal

pub returns-in_err-pass_on-clause-writes : goal.returns-in_err-pass_on-clause-writes
returns-in_err-pass_on-clause-writes g c =
    let piece = placed_text c.args.is_first (placed_in c.args.text.now (seen_node c.args.self.now)) in
    let stops = stops_before c.args.joined.now piece c.in_err-pass_on.ensures.writes in search rules

pub returns-clause-writes : goal.returns-clause-writes
returns-clause-writes g c =
    let piece = placed_text c.args.is_first (placed_in c.args.text.now (seen_node c.args.self.now)) in
    both_written (g.K.Sink.told c.write.new.out) c.args.joined.now piece c.write.result c.in_ok-pass_on.ensures.writes c.write.ensures
