use Rattle.std.proofs.Common.{◌++◌, sym, subst, ◌∙◌, ap, rules}
use Rattle.hex.specs.Hex.{encode_lower}
use Rattle.sval_io.specs.Sinks.{WritesAll}
use Rattle.sval_io.proofs.Appending.{stops_after}
use Rattle.sval_script.proofs.PrintedPieces.{stops_first}
use Rattle.sval_json_read.proofs.NodeTexts.{both_written}
use Rattle.sval_cbor_read.proofs.NodeScripts.{string_parts}
use Rattle.sval_cbor_read.proofs.node_script.print_string.Goals as goal

pub returns-in_err-write_between : goal.returns-in_err-write_between
returns-in_err-write_between g c =
    let digits = encode_lower c.args.content.now in
    let n = c.as_bytes.result.now in
    let begin = c.args.begin.now ++ (n ++ c.args.fragment.now) in
    let is_n = c.as_bytes.ensures.value ∙ c.format.ensures.text in
    let all = ap (λ n. c.args.begin.now ++ (n ++ (c.args.fragment.now ++ (digits ++ c.args.end.now)))) (sym is_n) ∙ string_parts c.args.begin.now n c.args.fragment.now digits c.args.end.now in
    let stops = stops_first begin (digits ++ c.args.end.now) all c.in_err-write_between.ensures in search rules

pub returns-in_err-write_hex : goal.returns-in_err-write_hex
returns-in_err-write_hex g c =
    let digits = encode_lower c.args.content.now in
    let n = c.as_bytes.result.now in
    let begin = c.args.begin.now ++ (n ++ c.args.fragment.now) in
    let is_n = c.as_bytes.ensures.value ∙ c.format.ensures.text in
    let all = ap (λ n. c.args.begin.now ++ (n ++ (c.args.fragment.now ++ (digits ++ c.args.end.now)))) (sym is_n) ∙ string_parts c.args.begin.now n c.args.fragment.now digits c.args.end.now in
    let stops = stops_after begin digits c.args.end.now c.in_ok-write_between.ensures all c.in_err-write_hex.ensures in search rules

pub returns : goal.returns
returns g c =
    let digits = encode_lower c.args.content.now in
    let n = c.as_bytes.result.now in
    let begin = c.args.begin.now ++ (n ++ c.args.fragment.now) in
    let is_n = c.as_bytes.ensures.value ∙ c.format.ensures.text in
    let all = ap (λ n. c.args.begin.now ++ (n ++ (c.args.fragment.now ++ (digits ++ c.args.end.now)))) (sym is_n) ∙ string_parts c.args.begin.now n c.args.fragment.now digits c.args.end.now in
    let new = g.K.Sink.told c.write_in_place.new.sink in
    let rest = both_written new digits c.args.end.now c.write_in_place.result c.in_ok-write_hex.ensures c.write_in_place.ensures.writes in
    subst (λ lines. WritesAll c.write_in_place.result (g.K.Sink.told c.args.out.now) lines new) (sym all)
    (both_written new begin (digits ++ c.args.end.now) c.write_in_place.result c.in_ok-write_between.ensures rest)
