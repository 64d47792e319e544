use Rattle.std.proofs.Common.{rules, arith, refl}
use Rattle.sval_core.proofs.ValueProofs.{streams_folds, stops_by_value}
use Rattle.readings.specs.Totals.{total_law}
use Rattle.readings.proofs.total.total_of.Goals as goal

pub returns-in-Ok : goal.returns-in-Ok
returns-in-Ok g c = rw c.in-Ok.ensures.willing (let all = streams_folds total_law c.in-Ok.ensures in search (rules, all, c.sum.ensures))

pub returns-in-Err : goal.returns-in-Err
returns-in-Err g c = rw (stops_by_value total_law (λ v call. tt) refl refl (omega arith) (omega arith) c.in-Err.ensures) refl
