use Rattle.sval.proofs.Bracketed.{begin_refused}
use Rattle.sval.proofs.binary_array.BinaryArrayValueLent.stream.Goals as goal

pub returns-in_err-tagged_begin : goal.returns-in_err-tagged_begin
returns-in_err-tagged_begin g c =
    begin_refused _ _ c.from_residual.result c.from_residual.ensures.0 (rw c.constant_size.ensures at c.in_err-tagged_begin.ensures)
