use Rattle.std.proofs.Common.{◌++◌, sym, ap, ◌∙◌, subst, rules}
use Rattle.sval_io.specs.Sinks.{WritesAll}
use Rattle.sval_io.proofs.Appending.{stops_after}
use Rattle.sval_script.proofs.PrintedPieces.{stops_first}
use Rattle.sval_json_read.specs.SeenNodes.{node_place}
use Rattle.sval_json_read.specs.SeenValues.{text_in}
use Rattle.sval_json_read.specs.TokenScripts.{line_before, line_behind, text_lines}
use Rattle.sval_json_read.proofs.NodeTexts.{both_written}
use Rattle.sval_json_read.proofs.node.Place.print_text.Goals as goal

pub returns-in_err-write_in_place : goal.returns-in_err-write_in_place
returns-in_err-write_in_place g c =
    let rest = text_lines (text_in c.args.raw.now) ++ line_behind (node_place c.args.self) in
    let stops = stops_first c.line_before.result.now rest (ap (λ first. first ++ rest) (sym c.line_before.ensures)) c.in_err-write_in_place.ensures.writes in search rules

pub returns-in_err-write_string : goal.returns-in_err-write_string
returns-in_err-write_string g c =
    let rest = text_lines (text_in c.args.raw.now) ++ line_behind (node_place c.args.self) in
    let stops = stops_after c.line_before.result.now (text_lines (text_in c.args.raw.now)) (line_behind (node_place c.args.self)) c.in_ok-write_in_place.ensures.writes (ap (λ first. first ++ rest) (sym c.line_before.ensures)) c.in_err-write_string.ensures in search rules

pub returns : goal.returns
returns g c =
    let new = g.K.Sink.told c.write_in_place-2.new.sink in
    let before = c.line_before.result.now in
    let behind = c.line_behind.result.now in
    let rest = both_written new (text_lines (text_in c.args.raw.now)) behind c.write_in_place-2.result c.in_ok-write_string.ensures c.write_in_place-2.ensures.writes in
    let same = ap (λ first. first ++ (text_lines (text_in c.args.raw.now) ++ behind)) c.line_before.ensures ∙ ap (λ last. line_before (node_place c.args.self) ++ (text_lines (text_in c.args.raw.now) ++ last)) c.line_behind.ensures in
    subst (λ lines. WritesAll c.write_in_place-2.result (g.K.Sink.told c.args.out.now) lines new) same
    (both_written new before (text_lines (text_in c.args.raw.now) ++ behind) c.write_in_place-2.result c.in_ok-write_in_place.ensures.writes rest)
