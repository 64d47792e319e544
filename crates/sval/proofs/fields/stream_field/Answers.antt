use Rattle.sval.proofs.Bracketed.{begin_refused, inside_stopped, end_answered}
use Rattle.sval.proofs.fields.stream_field.Goals as goal

pub returns-in_err-begin_field : goal.returns-in_err-begin_field
returns-in_err-begin_field g c =
    begin_refused _ _ c.from_residual.result c.from_residual.ensures.0 c.in_err-begin_field.ensures

pub returns-in_err-stream : goal.returns-in_err-stream
returns-in_err-stream g c =
    inside_stopped _ c.from_residual-in_err-stream.result c.from_residual-in_err-stream.ensures.0 c.in_ok-begin_field.ensures c.in_err-stream.ensures

pub returns : goal.returns
returns g c = end_answered _ _ c.end_field.result c.in_ok-begin_field.ensures c.in_ok-stream.ensures c.end_field.ensures
