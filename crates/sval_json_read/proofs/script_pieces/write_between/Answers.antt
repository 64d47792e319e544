use Rattle.std.proofs.Common.{◌++◌, refl, rules}
use Rattle.sval_io.proofs.Appending.{stops_after}
use Rattle.sval_json_read.proofs.NodeTexts.{both_written}
use Rattle.sval_json_read.proofs.script_pieces.write_between.Goals as goal

pub returns-in_err-write_in_place-2 : goal.returns-in_err-write_in_place-2
returns-in_err-write_in_place-2 g c =
    let stops = stops_after c.args.before.now c.args.piece.now c.args.behind.now c.in_ok-write_in_place.ensures.writes refl c.in_err-write_in_place-2.ensures.writes in search rules

pub returns : goal.returns
returns g c =
    let new = g.K.Sink.told c.write_in_place-3.new.sink in
    let rest = both_written new c.args.piece.now c.args.behind.now c.write_in_place-3.result c.in_ok-write_in_place-2.ensures.writes c.write_in_place-3.ensures.writes in
    both_written new c.args.before.now (c.args.piece.now ++ c.args.behind.now) c.write_in_place-3.result c.in_ok-write_in_place.ensures.writes rest
