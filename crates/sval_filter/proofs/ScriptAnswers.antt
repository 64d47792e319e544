-- From what reading and checking a script answered to what serving it says.
use Rattle.std.specs.Prelude.{◌≡◌, ℕ, true, false, List, [], Some, Result, Ok, Err, refl}
use Rattle.std.proofs.Common.{subst}
use Rattle.sval_label.specs.Calls.{Call}
use Rattle.sval_core.specs.Values.{makes}
use Rattle.sval_io.specs.Sinks.{Told}
use Rattle.sval_io.proofs.Appending.{writes_nothing}
use Rattle.sval_io.specs.Sources.{Supply}
use Rattle.sval_check.specs.Checks.{IsFirstBadCall, IsUnfinished}
use Rattle.sval_check.specs.declared.error.CheckError.{CheckError}
use Rattle.sval_check.specs.declared.error.CheckError.TheVariants as check
use Rattle.sval_script.specs.Lines.{Good, lines}
use Rattle.sval_script.specs.Readings.{ScriptReading, answer_with}
use Rattle.sval_script.specs.declared.script.ScriptError.{ScriptError}
use Rattle.sval_script.specs.declared.script.ScriptError.TheVariants as reading
use Rattle.sval_program.specs.declared.failure.Fault.{Fault}
use Rattle.sval_program.specs.declared.failure.Fault.TheVariants as fault
use Rattle.sval_program.specs.declared.failure.Failure.{Failure}
use Rattle.sval_program.specs.declared.failure.Failure.TheVariants as failure
use Rattle.sval_program.specs.Failures.{status_of_fault, failure_of_script, failure_of_check}
use Rattle.sval_program.specs.Inputs.{HasRead}
use Rattle.sval_program.specs.Jobs.{ServesBytes}
use Rattle.sval_program.specs.Statuses.{is_among}
use Rattle.sval_program.proofs.ReadAnswers.{read_bad}
use Rattle.sval_filter.specs.Forms.{FilterForm}
use Rattle.sval_filter.specs.Serves.{FilterDue, is_bad_line, is_bad_call, is_unfinished, filter_terms}

-- nothing is written before a fault of the script
faulty : {K : Type 0} (told : K → Told) (script : List ℕ) (asked : FilterForm) (out : K) (why : Fault) → FilterDue asked script (Some why) [] → is_among (status_of_fault why) filter_terms.faults ≡ true
    → ServesBytes filter_terms told asked script (Err (failure.Fault why)) out out
faulty told script asked out why due known = record { all = record { bytes = []; due = due; writes = writes_nothing (told out) }; known = known; untouched = λ e. refl }

-- ---- what checking a script found, whose calls these are

module _ (script : List ℕ) (asked : FilterForm) (calls : List Call) (good : lines script ≡ Good calls) where
  fails_so : {K : Type 0} (told : K → Told) (out : K) (why failed : Failure) → Some why ≡ Some failed → ServesBytes filter_terms told asked script (Err why) out out → ServesBytes filter_terms told asked script (Err failed) out out
  fails_so told out why failed is f = let same : why ≡ failed = cc is in subst (λ (w : Failure). ServesBytes filter_terms told asked script (Err w) out out) same f

  pub check_fails : {K : Type 0} (told : K → Told) (out : K) (why : CheckError) (failed : Failure) → failure_of_check false why ≡ Some failed
      → ((at : ℕ) → ◌≡◌ {A = Result (Unit {0}) CheckError} (Err why) (Err (check.BadCall at)) → IsFirstBadCall calls at)
      → (◌≡◌ {A = Result (Unit {0}) CheckError} (Err why) (Err check.Unfinished) → IsUnfinished (makes calls))
      → ServesBytes filter_terms told asked script (Err failed) out out
  check_fails told out (check.BadCall n) failed is bad unfinished =
      fails_so told out (failure.Fault (fault.BadCall n)) failed is (faulty told script asked out (fault.BadCall n) (is_bad_call (record { calls = calls; good = good; is = bad n refl })) refl)
  check_fails told out check.Unfinished failed is bad unfinished =
      let u = unfinished refl in
      fails_so told out (failure.Fault (fault.Unfinished false)) failed is
      (faulty told script asked out (fault.Unfinished false) (is_unfinished (record { calls = calls; good = good; is = record { viable = u.viable; no_tree = u.no_tree } })) refl)
  check_fails told out check.NoMemory failed is bad unfinished = fails_so told out failure.NoMemory failed is refl
  check_fails told out check.Refused failed is bad unfinished = cc is

-- ---- what a reader answered

module _ {reader : ScriptReading} {old new : Supply} (h : HasRead old reader new) where
  -- where it has no script the sink is as it was
  pub read_fails : {K : Type 0} (told : K → Told) (asked : FilterForm) (out : K) (why : ScriptError) → ◌≡◌ {A = Result (List Call) ScriptError} (Err why) (answer_with reader [])
      → ServesBytes filter_terms told asked h.script (Err (failure_of_script why)) out out
  read_fails told asked out (reading.BadLine n) e = faulty told h.script asked out (fault.BadLine n) (is_bad_line (read_bad h n e)) refl
  read_fails told asked out reading.NoMemory e = refl
