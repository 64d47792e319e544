use Rattle.sval.proofs.Bracketed.{begin_refused, inside_stopped, end_answered}
use Rattle.sval.proofs.tuple_structs.stream_variant_fields.Goals as goal

pub returns-in_err-begin_variant : goal.returns-in_err-begin_variant
returns-in_err-begin_variant g c =
    begin_refused _ _ c.from_residual.result c.from_residual.ensures.0 (rw c.count.ensures at c.in_err-begin_variant.ensures)

pub returns-in_err-stream_fields : goal.returns-in_err-stream_fields
returns-in_err-stream_fields g c =
    inside_stopped _ c.from_residual-in_err-stream_fields.result c.from_residual-in_err-stream_fields.ensures.0 (rw c.count.ensures at c.in_ok-begin_variant.ensures) c.in_err-stream_fields.ensures

pub returns : goal.returns
returns g c = end_answered _ _ c.end_variant.result (rw c.count.ensures at c.in_ok-begin_variant.ensures) c.in_ok-stream_fields.ensures c.end_variant.ensures
