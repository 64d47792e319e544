use Rattle.std.proofs.Common.{arith, ◌<◌, ◌^◌, ◌∙◌, ap, sym, subst}
use Rattle.sval_json.specs.Json.{compact}
use Rattle.sval_script.specs.Lines.{lines}
use Rattle.sval_relay.specs.declared.way.Way.TheVariants.{Buffered}
use Rattle.sval_relay.specs.Verdict.{Text, one_in, IsRelayVerdict}
use Rattle.sval_relay.specs.Made.{made_calls}
use Rattle.sval_relay.specs.MadeLaws.{made_json}
use Rattle.sval_relay.proofs.MadeScripts.{made_reads_back, made_is_text, feeds_are_calls}
use Rattle.sval_relay.proofs.MadeAnswers.{made_line}
use Rattle.sval_relay.proofs.made.measure.Goals as goal

pub json_length-requires : goal.json_length-requires
json_length-requires c =
    let small : c.args.count < 2 ^ 64 = omega (arith, c.ranges.count.fits) in
    let text = compact (made_json c.args.count) in
    (text, subst (λ script. IsRelayVerdict (Text text) script (one_in Buffered)) (sym (c.as_slice-script.ensures.value ∙ c.in_ok-printed.ensures.script)) (made_is_text c.args.count small))

pub returns-clause-line : goal.returns-clause-line
returns-clause-line c =
    let count = c.args.count in
    let small : count < 2 ^ 64 = omega (arith, c.ranges.count.fits) in
    let text = compact (made_json count) in
    let script = c.as_slice-script.ensures.value ∙ c.in_ok-printed.ensures.script in
    let calls = c.count_lines.ensures ∙ feeds_are_calls c.as_slice-script.result.now (made_calls count) (ap lines script ∙ made_reads_back count small) in
    let bytes = c.in_ok-json_length.ensures.bytes text (subst (λ bytes. IsRelayVerdict (Text text) bytes (one_in Buffered)) (sym script) (made_is_text count small)) in
    made_line count c.count_lines.result c.in_ok-json_length.field-0 small calls bytes
