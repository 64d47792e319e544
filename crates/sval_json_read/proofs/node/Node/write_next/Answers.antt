use Rattle.std.proofs.Common.{rules}
use Rattle.sval_json_read.specs.Nodes.{placed_in}
use Rattle.sval_json_read.specs.SeenNodes.{seen_node}
use Rattle.sval_json_read.specs.TokenTexts.{placed_text}
use Rattle.sval_json_read.proofs.JoinedParts.{all_written, stops_written, stops_before}
use Rattle.sval_json_read.proofs.node.Node.write_next.Goals as goal

pub returns-in_err-make_room-clause-err : goal.returns-in_err-make_room-clause-err
returns-in_err-make_room-clause-err g c =
    let piece = placed_text c.args.is_first (placed_in c.args.text.now (seen_node c.args.self.now)) in
    let stops = stops_before c.args.joined.now piece c.in_err-make_room.ensures.err in search rules

pub returns-clause-written : goal.returns-clause-written
returns-clause-written g c =
    let piece = placed_text c.args.is_first (placed_in c.args.text.now (seen_node c.args.self.now)) in
    all_written (g.K.Sink.told c.write_behind.new.out) piece c.write_behind.new.joined c.write_behind.result c.in_ok-make_room.ensures.written c.if-join.ensures c.write_behind.ensures.writes c.write_behind.ensures.empty

pub returns-clause-err : goal.returns-clause-err
returns-clause-err g c =
    let piece = placed_text c.args.is_first (placed_in c.args.text.now (seen_node c.args.self.now)) in
    stops_written (g.K.Sink.told c.write_behind.new.out) piece c.write_behind.result c.in_ok-make_room.ensures.written c.if-join.ensures c.write_behind.ensures.writes
