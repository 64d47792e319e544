use Rattle.sval.proofs.Bracketed.{begin_refused, inside_stopped, end_answered}
use Rattle.sval.proofs.fields.stream_place.Goals as goal

pub returns-in_err-begin_place : goal.returns-in_err-begin_place
returns-in_err-begin_place g c =
    begin_refused _ _ c.from_residual.result c.from_residual.ensures.0 c.in_err-begin_place.ensures

pub returns-in_err-stream : goal.returns-in_err-stream
returns-in_err-stream g c =
    inside_stopped _ c.from_residual-in_err-stream.result c.from_residual-in_err-stream.ensures.0 c.in_ok-begin_place.ensures c.in_err-stream.ensures

pub returns : goal.returns
returns g c = end_answered _ _ c.end_place.result c.in_ok-begin_place.ensures c.in_ok-stream.ensures c.end_place.ensures
