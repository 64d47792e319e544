use Rattle.sval.proofs.Bracketed.{begin_refused, inside_stopped, end_answered}
use Rattle.sval.proofs.map_slice.stream_key.Goals as goal

pub returns-in_err-map_key_begin : goal.returns-in_err-map_key_begin
returns-in_err-map_key_begin g c =
    begin_refused _ _ c.from_residual.result c.from_residual.ensures.0 c.in_err-map_key_begin.ensures

pub returns-in_err-stream : goal.returns-in_err-stream
returns-in_err-stream g c =
    inside_stopped _ c.from_residual-in_err-stream.result c.from_residual-in_err-stream.ensures.0 c.in_ok-map_key_begin.ensures c.in_err-stream.ensures

pub returns : goal.returns
returns g c = end_answered _ _ c.map_key_end.result c.in_ok-map_key_begin.ensures c.in_ok-stream.ensures c.map_key_end.ensures
