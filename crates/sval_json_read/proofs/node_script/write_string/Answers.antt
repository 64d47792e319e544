use Rattle.std.proofs.Common.{◌≡◌, ◌++◌, codes, decimal, length, rules, sym, subst}
use Rattle.hex.specs.Hex.{encode_lower}
use Rattle.sval_io.specs.Sinks.{WritesAll}
use Rattle.sval_io.proofs.Appending.{stops_after}
use Rattle.sval_script.proofs.PrintedPieces.{stops_first}
use Rattle.sval_json_read.specs.SeenValues.{text_in}
use Rattle.sval_json_read.proofs.NodeTexts.{both_written}
use Rattle.sval_json_read.proofs.TokenScripts.{text_parts}
use Rattle.sval_json_read.proofs.node_script.write_string.Goals as goal

pub returns-in_err-write_text_begin : goal.returns-in_err-write_text_begin
returns-in_err-write_text_begin g c =
    let text = (text_in c.args.raw.now) in
    let n : c.text_len.result ≡ length text = c.text_len.ensures in
    let begin = codes "text_begin " ++ (decimal c.text_len.result ++ codes "\ntext_fragment =") in
    let stops = stops_first begin (encode_lower text ++ codes "\ntext_end\n") (text_parts c.text_len.result text n) c.in_err-write_text_begin.ensures in search rules

pub returns-in_err-write_text_hex : goal.returns-in_err-write_text_hex
returns-in_err-write_text_hex g c =
    let text = (text_in c.args.raw.now) in
    let n : c.text_len.result ≡ length text = c.text_len.ensures in
    let begin = codes "text_begin " ++ (decimal c.text_len.result ++ codes "\ntext_fragment =") in
    let stops = stops_after begin (encode_lower text) (codes "\ntext_end\n") c.in_ok-write_text_begin.ensures (text_parts c.text_len.result text n) c.in_err-write_text_hex.ensures in search rules

pub returns : goal.returns
returns g c =
    let text = (text_in c.args.raw.now) in
    let n : c.text_len.result ≡ length text = c.text_len.ensures in
    let begin = codes "text_begin " ++ (decimal c.text_len.result ++ codes "\ntext_fragment =") in
    let new = g.K.Sink.told c.write_in_place.new.sink in
    let rest = both_written new (encode_lower text) (codes "\ntext_end\n") c.write_in_place.result c.in_ok-write_text_hex.ensures c.write_in_place.ensures.writes in
    subst (λ lines. WritesAll c.write_in_place.result (g.K.Sink.told c.args.out.now) lines new) (sym (text_parts c.text_len.result text n))
    (both_written new begin (encode_lower text ++ codes "\ntext_end\n") c.write_in_place.result c.in_ok-write_text_begin.ensures rest)
