use Rattle.std.proofs.Common.{◌++◌, refl, rules}
use Rattle.sval_io.proofs.Appending.{stops_after}
use Rattle.sval_json_read.proofs.NodeTexts.{both_written}
use Rattle.sval_json_read.proofs.node_text.write_three.Goals as goal

pub returns-in_err-write_all-2 : goal.returns-in_err-write_all-2
returns-in_err-write_all-2 g c =
    let stops = stops_after c.args.before.now c.args.piece.now c.args.behind.now c.in_ok-write_all.ensures.writes refl c.in_err-write_all-2.ensures.writes in search rules

pub returns : goal.returns
returns g c =
    let new = g.K.Sink.told c.write_all-3.new.sink in
    let rest = both_written new c.args.piece.now c.args.behind.now c.write_all-3.result c.in_ok-write_all-2.ensures.writes c.write_all-3.ensures.writes in
    both_written new c.args.before.now (c.args.piece.now ++ c.args.behind.now) c.write_all-3.result c.in_ok-write_all.ensures.writes rest
