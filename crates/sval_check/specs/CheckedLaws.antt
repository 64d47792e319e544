-- What a stream whose calls are checked means for the lists of calls that it stands for, as facts.
use Rattle.std.specs.Prelude.{◌≡◌, true, List, [], ◌∷◌, ◌++◌, Option, Some}
use Rattle.sval_label.specs.Calls.{Call}
use Rattle.sval_core.specs.Law.{Law, Ran}
use Rattle.sval_core.specs.Spells.{IsViable}
use Rattle.sval_check.specs.Checks.{has_own_end}
use Rattle.sval_check.specs.declared.checked.Why.{Why}
use Rattle.sval_check.specs.declared.checked.Why.TheVariants.{NotViable, NoMemory, Inner}
use Rattle.sval_check.specs.Checked.{CheckedView, checked_law, checked_after, CheckedAccepts, IsLeftRefused, StandsFor}

-- a call is accepted exactly where the calls so far with it are viable, and the inner stream accepts it
abbrev pub AcceptsTheViable : {V : Type 0} → Law V → Type 0
AcceptsTheViable {V} law =
    (view : CheckedView V) (calls : List Call) (call : Call) → StandsFor view.state calls
    → (CheckedAccepts law view call → IsViable (calls ++ (call ∷ [])) × law.accepts view.inner.view call)
    × (IsViable (calls ++ (call ∷ [])) → law.accepts view.inner.view call → CheckedAccepts law view call)

-- after an accepted call the calls so far are the old ones followed by it
abbrev pub AcceptedIsAppended : {V : Type 0} → Law V → Type 0
AcceptedIsAppended {V} law =
    (view : CheckedView V) (calls : List Call) (call : Call) → StandsFor view.state calls → CheckedAccepts law view call
    → StandsFor (checked_after law view call).state (calls ++ (call ∷ []))

-- after calls that were all accepted they follow the old ones, and the inner stream accepted each of them
abbrev pub AllArePassedOn : {V : Type 0} → Law V → Type 0
AllArePassedOn {V} law =
    (view last : CheckedView V) (calls more : List Call) → StandsFor view.state calls → Ran (checked_law law) view more last
    → StandsFor last.state (calls ++ more) × Ran law view.inner.view more last.inner.view

-- what the cause of a refusal says of the calls so far
pub record IsRefusedFor (calls : List Call) (call : Call) (why : Option Why) : Type 0 where
  pub not_viable : why ≡ Some NotViable → IsViable (calls ++ (call ∷ [])) → ⊥
  pub exactly : (IsViable (calls ++ (call ∷ [])) → ⊥) → why ≡ Some NotViable
  pub no_memory : why ≡ Some NoMemory → IsViable (calls ++ (call ∷ [])) × (has_own_end call ≡ true)
  pub inner : why ≡ Some Inner → IsViable (calls ++ (call ∷ []))

-- after a refused call the calls so far are the old ones, and its cause is not being viable exactly where it isn't
abbrev pub RefusedIsLeft : {V : Type 0} → Law V → Type 0
RefusedIsLeft {V} law =
    (view left : CheckedView V) (calls : List Call) (call : Call) → StandsFor view.state calls → IsLeftRefused law view call left
    → StandsFor left.state calls × IsRefusedFor calls call left.why
