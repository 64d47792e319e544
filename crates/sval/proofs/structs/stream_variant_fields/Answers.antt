use Rattle.sval.proofs.Bracketed.{begin_refused, inside_stopped, end_answered}
use Rattle.sval.proofs.structs.stream_variant_fields.Goals as goal

pub returns-in_err-begin_variant : goal.returns-in_err-begin_variant
returns-in_err-begin_variant g c =
    begin_refused _ _ c.from_residual.result c.from_residual.ensures.0 (rw c.count.ensures at c.in_err-begin_variant.ensures)

pub returns-in_err-stream_placed : goal.returns-in_err-stream_placed
returns-in_err-stream_placed g c =
    inside_stopped _ c.from_residual-in_err-stream_placed.result c.from_residual-in_err-stream_placed.ensures.0 (rw c.count.ensures at c.in_ok-begin_variant.ensures) c.in_err-stream_placed.ensures

pub returns : goal.returns
returns g c = end_answered _ _ c.end_variant.result (rw c.count.ensures at c.in_ok-begin_variant.ensures) c.in_ok-stream_placed.ensures c.end_variant.ensures
