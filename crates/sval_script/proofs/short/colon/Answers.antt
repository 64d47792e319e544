use Rattle.std.proofs.Common.{None, Some, arith}
use Rattle.sval_script.proofs.NearPlaces.{far_place}
use Rattle.sval_script.proofs.short.colon.Goals as goal

pub returns-in_err-place : goal.returns-in_err-place
returns-in_err-place c =
    rw c.from_residual.ensures (far_place c.near_colons.ensures (omega arith) (omega arith) c.in_default.ensures None c.in_err-place.ensures)

pub returns : goal.returns
returns c = far_place c.near_colons.ensures (omega arith) (omega arith) c.in_default.ensures (Some c.in_ok-place.place) c.in_ok-place.ensures
