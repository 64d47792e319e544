use Rattle.std.proofs.Common.{None, Some, arith}
use Rattle.sval_script.proofs.NearPlaces.{far_place}
use Rattle.sval_script.proofs.short.field_end.Goals as goal

pub returns-in_err-end : goal.returns-in_err-end
returns-in_err-end c =
    rw c.from_residual.ensures (far_place c.near_ends.ensures (omega arith) (omega arith) c.in_default.ensures None c.in_err-end.ensures)

pub returns : goal.returns
returns c = far_place c.near_ends.ensures (omega arith) (omega arith) c.in_default.ensures (Some c.in_ok-end.end) c.in_ok-end.ensures
