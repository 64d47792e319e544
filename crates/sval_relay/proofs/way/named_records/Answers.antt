use Rattle.std.proofs.Common.{ap, ◌∙◌, nat_le, option_and_then}
use Rattle.sval_script.specs.Lines.{keep}
use Rattle.sval_relay.proofs.RecordCounts.{kept, records_parsed}
use Rattle.sval_relay.proofs.way.named_records.Goals as goal

pub returns-in_err-records : goal.returns-in_err-records
returns-in_err-records c =
    let first = rw c.as_bytes.ensures.value at c.in_ok-first.ensures.item.3 in
    c.from_residual-in_err-records.ensures ∙ ap (option_and_then (keep (λ n. nat_le n 50000))) c.in_err-records.ensures.value
    ∙ records_parsed c.args.word.now c.in_ok-first.field-0.now c.parse.result first c.if-first-eq48.false c.if-first-eq43.false c.parse.ensures.value.0

pub returns : goal.returns
returns c =
    let first = rw c.as_bytes.ensures.value at c.in_ok-first.ensures.item.3 in
    c.then_some-2.ensures ∙ kept c.in_ok-records.records ∙ ap (option_and_then (keep (λ n. nat_le n 50000))) c.in_ok-records.ensures.value
    ∙ records_parsed c.args.word.now c.in_ok-first.field-0.now c.parse.result first c.if-first-eq48.false c.if-first-eq43.false c.parse.ensures.value.0
