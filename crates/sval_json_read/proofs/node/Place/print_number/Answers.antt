use Rattle.std.proofs.Common.{◌++◌, sym, ap, ◌∙◌, subst, rules}
use Rattle.sval_io.specs.Sinks.{WritesAll}
use Rattle.sval_io.proofs.Appending.{stops_after}
use Rattle.sval_script.proofs.PrintedPieces.{stops_first}
use Rattle.sval_json_read.specs.SeenNodes.{node_place}
use Rattle.sval_json_read.specs.TokenScripts.{line_before, line_behind, number_lines}
use Rattle.sval_json_read.proofs.NodeTexts.{both_written}
use Rattle.sval_json_read.proofs.node.Place.print_number.Goals as goal

pub returns-in_err-write_in_place : goal.returns-in_err-write_in_place
returns-in_err-write_in_place g c =
    let rest = number_lines c.args.text.now ++ line_behind (node_place c.args.self) in
    let stops = stops_first c.line_before.result.now rest (ap (λ first. first ++ rest) (sym c.line_before.ensures)) c.in_err-write_in_place.ensures.writes in search rules

pub returns-in_err-write_number : goal.returns-in_err-write_number
returns-in_err-write_number g c =
    let rest = number_lines c.args.text.now ++ line_behind (node_place c.args.self) in
    let stops = stops_after c.line_before.result.now (number_lines c.args.text.now) (line_behind (node_place c.args.self)) c.in_ok-write_in_place.ensures.writes (ap (λ first. first ++ rest) (sym c.line_before.ensures)) c.in_err-write_number.ensures in search rules

pub returns : goal.returns
returns g c =
    let new = g.K.Sink.told c.write_in_place-2.new.sink in
    let before = c.line_before.result.now in
    let behind = c.line_behind.result.now in
    let rest = both_written new (number_lines c.args.text.now) behind c.write_in_place-2.result c.in_ok-write_number.ensures c.write_in_place-2.ensures.writes in
    let same = ap (λ first. first ++ (number_lines c.args.text.now ++ behind)) c.line_before.ensures ∙ ap (λ last. line_before (node_place c.args.self) ++ (number_lines c.args.text.now ++ last)) c.line_behind.ensures in
    subst (λ lines. WritesAll c.write_in_place-2.result (g.K.Sink.told c.args.out.now) lines new) same
    (both_written new before (number_lines c.args.text.now ++ behind) c.write_in_place-2.result c.in_ok-write_in_place.ensures.writes rest)
