use Rattle.std.proofs.Common.{◌∷◌, ◌++◌, [], sym, subst, rules}
use Rattle.sval_io.specs.Sinks.{WritesAll}
use Rattle.sval_io.proofs.Appending.{stops_after}
use Rattle.sval_script.proofs.PrintedPieces.{stops_first}
use Rattle.sval_json.specs.Escape.{escaped}
use Rattle.sval_json_read.specs.SeenNodes.{node_place}
use Rattle.sval_json_read.specs.SeenValues.{text_in}
use Rattle.sval_json_read.specs.TokenTexts.{comma_at, colon_behind}
use Rattle.sval_json_read.proofs.NodeTexts.{both_written}
use Rattle.sval_json_read.proofs.TextParts.{quoted_parts}
use Rattle.sval_json_read.proofs.node.Place.write_text_with_escape.Goals as goal

pub returns-in_err-write_word : goal.returns-in_err-write_word
returns-in_err-write_word g c =
    let place = node_place c.args.self in
    let comma = comma_at c.args.is_first place in
    let text = escaped (text_in c.args.raw.now) in
    let stops = stops_first (comma ++ (34 ∷ [])) (text ++ (34 ∷ colon_behind place)) (quoted_parts comma text (colon_behind place)) c.in_err-write_word.ensures in search rules

pub returns-in_err-write_pieces : goal.returns-in_err-write_pieces
returns-in_err-write_pieces g c =
    let place = node_place c.args.self in
    let comma = comma_at c.args.is_first place in
    let text = escaped (text_in c.args.raw.now) in
    let stops = stops_after (comma ++ (34 ∷ [])) text (34 ∷ colon_behind place) c.in_ok-write_word.ensures (quoted_parts comma text (colon_behind place)) c.in_err-write_pieces.ensures in search rules

pub returns : goal.returns
returns g c =
    let place = node_place c.args.self in
    let comma = comma_at c.args.is_first place in
    let text = escaped (text_in c.args.raw.now) in
    let result = c.write_end.result in
    let new = g.K.Sink.told c.write_end.new.out in
    let rest = both_written new text (34 ∷ colon_behind place) result c.in_ok-write_pieces.ensures c.write_end.ensures in
    subst (λ row. WritesAll result (g.K.Sink.told c.args.out.now) row new) (sym (quoted_parts comma text (colon_behind place)))
    (both_written new (comma ++ (34 ∷ [])) (text ++ (34 ∷ colon_behind place)) result c.in_ok-write_word.ensures rest)
