use Rattle.sval.specs.Structs.{record_emission}
use Rattle.sval.proofs.WholeStructs.{record_is_whole}
use Rattle.sval.proofs.Bracketed.{begin_refused, inside_stopped, end_answered}
use Rattle.sval.proofs.structs.stream_record.Goals as goal

pub returns-then-skip_fields : goal.returns-then-skip_fields
returns-then-skip_fields g c =
    let whole = c.skip_fields.ensures.whole c.if-skip_fields.true in
    c.skip_fields.ensures.skipped c.if-skip_fields.true (record_emission (g.F.Fields.listed c.args.fields)) (record_is_whole (g.F.Fields.listed c.args.fields) whole)

pub returns-in_err-record_begin : goal.returns-in_err-record_begin
unfolding record_emission
returns-in_err-record_begin g c =
    begin_refused _ _ c.from_residual.result c.from_residual.ensures.0 (rw (c.skip_fields.ensures.left c.if-skip_fields.false, c.count.ensures) at c.in_err-record_begin.ensures)

pub returns-in_err-stream_fields : goal.returns-in_err-stream_fields
unfolding record_emission
returns-in_err-stream_fields g c =
    inside_stopped _ c.from_residual-in_err-stream_fields.result c.from_residual-in_err-stream_fields.ensures.0 (rw (c.skip_fields.ensures.left c.if-skip_fields.false, c.count.ensures) at c.in_ok-record_begin.ensures) c.in_err-stream_fields.ensures

pub returns : goal.returns
unfolding record_emission
returns g c = end_answered _ _ c.record_end.result (rw (c.skip_fields.ensures.left c.if-skip_fields.false, c.count.ensures) at c.in_ok-record_begin.ensures) c.in_ok-stream_fields.ensures c.record_end.ensures
