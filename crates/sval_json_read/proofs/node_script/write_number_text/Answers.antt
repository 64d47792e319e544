use Rattle.std.proofs.Common.{◌++◌, codes, refl, rules}
use Rattle.sval_io.proofs.Appending.{stops_after}
use Rattle.sval_script.proofs.PrintedPieces.{stops_first}
use Rattle.sval_json_read.specs.TokenScripts.{text_lines}
use Rattle.sval_json_read.proofs.NodeTexts.{both_written}
use Rattle.sval_json_read.proofs.node_script.write_number_text.Goals as goal

pub returns-in_err-write_in_place : goal.returns-in_err-write_in_place
returns-in_err-write_in_place g c =
    let stops = stops_first (codes "tagged_begin NUMBER - -\n") (text_lines c.args.text.now ++ codes "tagged_end NUMBER - -\n") refl c.in_err-write_in_place.ensures.writes in search rules

pub returns-in_err-write_plain : goal.returns-in_err-write_plain
returns-in_err-write_plain g c =
    let stops = stops_after (codes "tagged_begin NUMBER - -\n") (text_lines c.args.text.now) (codes "tagged_end NUMBER - -\n") c.in_ok-write_in_place.ensures.writes refl c.in_err-write_plain.ensures in search rules

pub returns : goal.returns
returns g c =
    let new = g.K.Sink.told c.write_in_place-2.new.sink in
    let rest = both_written new (text_lines c.args.text.now) (codes "tagged_end NUMBER - -\n") c.write_in_place-2.result c.in_ok-write_plain.ensures c.write_in_place-2.ensures.writes in
    both_written new (codes "tagged_begin NUMBER - -\n") (text_lines c.args.text.now ++ codes "tagged_end NUMBER - -\n") c.write_in_place-2.result c.in_ok-write_in_place.ensures.writes rest
