use Rattle.std.proofs.Common.{sym, subst}
use Rattle.std.specs.Prelude.{[]}
use Rattle.sval_core.specs.Checker.{State}
use Rattle.sval_check.specs.Checked.{StandsFor}
use Rattle.sval_check.proofs.SoFar.{none_so_far}
use Rattle.sval_check.proofs.passing.Passing.new.Goals as goal

pub returns-clause-stands_for : goal.returns-clause-stands_for
returns-clause-stands_for g c = subst (λ (state : State). StandsFor state []) (sym c.new.ensures) none_so_far
