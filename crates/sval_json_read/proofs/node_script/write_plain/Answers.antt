use Rattle.std.proofs.Common.{◌≡◌, ◌++◌, codes, decimal, length, refl, rules, sym, subst}
use Rattle.hex.specs.Hex.{encode_lower}
use Rattle.sval_io.specs.Sinks.{WritesAll, WritesFront, WritesWhole}
use Rattle.sval_io.proofs.Appending.{stops_after}
use Rattle.sval_script.proofs.PrintedPieces.{stops_first}
use Rattle.sval_json_read.proofs.NodeTexts.{both_written}
use Rattle.sval_json_read.proofs.TokenScripts.{text_parts}
use Rattle.sval_json_read.proofs.node_script.write_plain.Goals as goal

pub returns-in_err-write_text_begin : goal.returns-in_err-write_text_begin
returns-in_err-write_text_begin g c =
    let text = c.args.text.now in
    let n : (length c.args.text.now) ≡ length text = refl in
    let begin = codes "text_begin " ++ (decimal (length c.args.text.now) ++ codes "\ntext_fragment =") in
    let stops = stops_first begin (encode_lower text ++ codes "\ntext_end\n") (text_parts (length c.args.text.now) text n) c.in_err-write_text_begin.ensures in search rules

pub returns-in_err-write_hex : goal.returns-in_err-write_hex
returns-in_err-write_hex g c =
    let text = c.args.text.now in
    let n : (length c.args.text.now) ≡ length text = refl in
    let begin = codes "text_begin " ++ (decimal (length c.args.text.now) ++ codes "\ntext_fragment =") in
    let stops = stops_after begin (encode_lower text) (codes "\ntext_end\n") c.in_ok-write_text_begin.ensures (text_parts (length c.args.text.now) text n) (subst (λ text. WritesFront c.in_err-write_hex.field-0.0 (g.K.Sink.told c.write_text_begin.new.out) (encode_lower text) (g.K.Sink.told c.write_hex.new.out)) c.as_bytes.ensures.value c.in_err-write_hex.ensures) in search rules

pub returns : goal.returns
returns g c =
    let text = c.args.text.now in
    let n : (length c.args.text.now) ≡ length text = refl in
    let begin = codes "text_begin " ++ (decimal (length c.args.text.now) ++ codes "\ntext_fragment =") in
    let new = g.K.Sink.told c.write_in_place.new.sink in
    let rest = both_written new (encode_lower text) (codes "\ntext_end\n") c.write_in_place.result (subst (λ text. WritesWhole (g.K.Sink.told c.write_text_begin.new.out) (encode_lower text) (g.K.Sink.told c.write_hex.new.out)) c.as_bytes.ensures.value c.in_ok-write_hex.ensures) c.write_in_place.ensures.writes in
    subst (λ lines. WritesAll c.write_in_place.result (g.K.Sink.told c.args.out.now) lines new) (sym (text_parts (length c.args.text.now) text n))
    (both_written new begin (encode_lower text ++ codes "\ntext_end\n") c.write_in_place.result c.in_ok-write_text_begin.ensures rest)
