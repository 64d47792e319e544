use Rattle.std.proofs.Common.{◌++◌, sym, ap, ◌∙◌, subst, rules}
use Rattle.sval_io.specs.Sinks.{WritesAll}
use Rattle.sval_io.proofs.Appending.{stops_after}
use Rattle.sval_script.proofs.PrintedPieces.{stops_first}
use Rattle.sval_json_read.proofs.NodeTexts.{both_written}
use Rattle.sval_cbor_read.specs.SeenNodes.{item_ends_behind}
use Rattle.sval_cbor_read.specs.ItemScripts.{script_within, sized_script}
use Rattle.sval_cbor_read.proofs.NodeStreams.{calls_at}
use Rattle.sval_cbor_read.proofs.PlainCalls.{three_parts}
use Rattle.sval_cbor_read.proofs.node.Node.print_lines.Goals as goal

pub returns-in_err-write_in_place : goal.returns-in_err-write_in_place
returns-in_err-write_in_place g c =
    let node = c.args.self in
    let rest = script_within c.args.size (calls_at c.args.bytes.now node) ++ sized_script (item_ends_behind node.kind node.place) in
    let all = three_parts c.args.bytes.now node c.args.size c.requires ∙ ap (λ first. first ++ rest) (sym c.line_before.ensures) in
    let stops = stops_first c.line_before.result.now rest all c.in_err-write_in_place.ensures.writes in search rules

pub returns-in_err-print_own : goal.returns-in_err-print_own
returns-in_err-print_own g c =
    let node = c.args.self in
    let own = script_within c.args.size (calls_at c.args.bytes.now node) in
    let ends = sized_script (item_ends_behind node.kind node.place) in
    let all = three_parts c.args.bytes.now node c.args.size c.requires ∙ ap (λ first. first ++ (own ++ ends)) (sym c.line_before.ensures) in
    let stops = stops_after c.line_before.result.now own ends c.in_ok-write_in_place.ensures.writes all c.in_err-print_own.ensures in search rules

pub returns : goal.returns
returns g c =
    let node = c.args.self in
    let own = script_within c.args.size (calls_at c.args.bytes.now node) in
    let before = c.line_before.result.now in
    let behind = c.line_behind.result.now in
    let new = g.K.Sink.told c.write_in_place-2.new.sink in
    let all =
    three_parts c.args.bytes.now node c.args.size c.requires ∙ ap (λ first. first ++ (own ++ sized_script (item_ends_behind node.kind node.place))) (sym c.line_before.ensures)
    ∙ ap (λ last. before ++ (own ++ last)) (sym c.line_behind.ensures) in
    let rest = both_written new own behind c.write_in_place-2.result c.in_ok-print_own.ensures c.write_in_place-2.ensures.writes in
    subst (λ lines. WritesAll c.write_in_place-2.result (g.K.Sink.told c.args.out.now) lines new) (sym all)
    (both_written new before (own ++ behind) c.write_in_place-2.result c.in_ok-write_in_place.ensures.writes rest)
