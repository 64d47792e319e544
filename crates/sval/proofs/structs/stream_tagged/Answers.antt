use Rattle.sval.proofs.Bracketed.{begin_refused, inside_stopped, end_answered}
use Rattle.sval.proofs.structs.stream_tagged.Goals as goal

pub returns-in_err-begin_tagged : goal.returns-in_err-begin_tagged
returns-in_err-begin_tagged g c =
    begin_refused _ _ c.from_residual.result c.from_residual.ensures.0 c.in_err-begin_tagged.ensures

pub returns-in_err-stream : goal.returns-in_err-stream
returns-in_err-stream g c =
    inside_stopped _ c.from_residual-in_err-stream.result c.from_residual-in_err-stream.ensures.0 c.in_ok-begin_tagged.ensures c.in_err-stream.ensures

pub returns : goal.returns
returns g c = end_answered _ _ c.end_tagged.result c.in_ok-begin_tagged.ensures c.in_ok-stream.ensures c.end_tagged.ensures
