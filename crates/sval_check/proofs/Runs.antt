-- The calls that what is kept of one tree stands for.
use Rattle.std.specs.Prelude.{◌≡◌, ℕ, ◌-◌, ◌^◌, min, List, [], ◌∷◌, ◌++◌, length, None, refl}
use Rattle.std.proofs.Common.{arith, length-append}
use Rattle.sval_label.specs.Calls.{Call}
use Rattle.sval_core.specs.Law.{one_more}
use Rattle.sval_check.specs.Checked.{StandsFor}
use Rattle.sval_check.specs.Checking.{Checking, nothing_checked, checking_law}
use Rattle.sval_check.proofs.SoFar.{none_so_far, appended}
use Rattle.sval_check.proofs.CallsSoFar.{IsKept}

-- no call was refused, and the machine took these calls and stands where this is kept
pub record ChecksSoFar (c : Checking) (calls : List Call) : Type 0 where
  pub stands : StandsFor c.state calls
  pub taken : c.taken ≡ min (length calls) (2 ^ 64 - 1)
  pub willing : c.why ≡ None

pub none_checked : ChecksSoFar nothing_checked []
none_checked = record { stands = none_so_far; taken = refl; willing = refl }

one_counted : (calls : List Call) (call : Call) (taken : ℕ) → taken ≡ min (length calls) (2 ^ 64 - 1) → one_more taken ≡ min (length (calls ++ (call ∷ []))) (2 ^ 64 - 1)
one_counted calls call taken is = omega (arith, is, length-append calls (call ∷ []))

pub checked_more : IsKept checking_law ChecksSoFar
checked_more c calls call so_far goes =
    record { stands = appended c.state calls call so_far.stands goes.viable; taken = one_counted calls call c.taken so_far.taken; willing = so_far.willing }
