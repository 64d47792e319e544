-- From what reading, checking and making a script answered to what serving a form says.
use Rattle.std.specs.Prelude.{◌≡◌, ℕ, ◌<◌, ◌^◌, true, List, [], length, Some, None, Result, Ok, Err, refl}
use Rattle.std.proofs.Common.{arith, subst}
use Rattle.sval_label.specs.Calls.{Call}
use Rattle.sval_io.specs.Sinks.{Told}
use Rattle.sval_io.proofs.Appending.{writes_nothing}
use Rattle.sval_io.specs.WholeInputs.{ReadsWhole}
use Rattle.sval_io.specs.Sources.{Supply}
use Rattle.sval_check.specs.declared.error.CheckError.{CheckError}
use Rattle.sval_check.specs.declared.error.CheckError.TheVariants as checking
use Rattle.sval_script.specs.Lines.{Bad, lines}
use Rattle.sval_script.specs.declared.script.ScriptError.{ScriptError}
use Rattle.sval_script.specs.declared.script.ScriptError.TheVariants as reading
use Rattle.sval_program.specs.declared.failure.Fault.{Fault}
use Rattle.sval_program.specs.declared.failure.Fault.TheVariants as fault
use Rattle.sval_program.specs.declared.failure.Failure.{Failure}
use Rattle.sval_program.specs.declared.failure.Failure.TheVariants as failure
use Rattle.sval_program.specs.Failures.{status_of_fault, failure_of_script, failure_of_check}
use Rattle.sval_program.specs.Jobs.{FindsFault, ServesBytes}
use Rattle.sval_program.specs.Statuses.{is_among}
use Rattle.sval_relay.specs.declared.way.Task.{Task}
use Rattle.sval_relay.specs.declared.way.Form.TheVariants.{Serve, Made}
use Rattle.sval_relay.specs.declared.made.MadeError.{MadeError}
use Rattle.sval_relay.specs.declared.made.MadeError.TheVariants as made
use Rattle.sval_relay.specs.Made.{TellsMade}
use Rattle.sval_relay.specs.Serves.{RelayDue, is_bad_line, is_bad_call, is_unfinished, a_made_line, relay_terms, failure_of_made}
use Rattle.sval_relay.specs.Verdict.{BadCall, Unfinished, IsRelayVerdict}
use Rattle.sval_relay.proofs.Verdicts.{verdict_bad_line}

-- ---- a script that is served

-- an input that was read whole has a length that is counted
pub counted : {old new : Supply} {script : List ℕ} → ReadsWhole old script new → length script < 2 ^ 64
counted reads = omega (arith, reads.short)

module _ {K : Type 0} (told : K → Told) (script : List ℕ) (task : Task) (out : K) where
  -- nothing is written before a fault of the script
  faulty : (why : Fault) → is_among (status_of_fault why) relay_terms.faults ≡ true → RelayDue (Serve task) script (Some why) [] → FindsFault relay_terms told (Serve task) script why out out
  faulty why known due = record { all = record { bytes = []; due = due; writes = writes_nothing (told out) }; known = known; untouched = λ e. refl }

  -- it wasn't read
  pub script_unread : (e : ScriptError) → ((n : ℕ) → ◌≡◌ {A = Result (List Call) ScriptError} (Err e) (Err (reading.BadLine n)) → lines script ≡ Bad n)
      → ServesBytes relay_terms told (Serve task) script (Err (failure_of_script e)) out out
  script_unread (reading.BadLine n) bad = faulty (fault.BadLine n) refl (is_bad_line (verdict_bad_line script task n (bad n refl)))
  script_unread reading.NoMemory bad = refl

  -- its calls are no value, or there was no memory to check them
  pub script_unchecked : (e : CheckError) (why : Failure) → failure_of_check task.many e ≡ Some why → ((n : ℕ) → e ≡ checking.BadCall n → IsRelayVerdict (BadCall n) script task)
      → (e ≡ checking.Unfinished → IsRelayVerdict Unfinished script task) → ServesBytes relay_terms told (Serve task) script (Err why) out out
  script_unchecked (checking.BadCall n) why is bad unfinished =
      let same : failure.Fault (fault.BadCall n) ≡ why = cc is in
      subst (λ w. ServesBytes relay_terms told (Serve task) script (Err w) out out) same (faulty (fault.BadCall n) refl (is_bad_call (bad n refl)))
  script_unchecked checking.Unfinished why is bad unfinished =
      let same : failure.Fault (fault.Unfinished task.many) ≡ why = cc is in
      subst (λ w. ServesBytes relay_terms told (Serve task) script (Err w) out out) same (faulty (fault.Unfinished task.many) refl (is_unfinished (unfinished refl)))
  script_unchecked checking.NoMemory why is bad unfinished =
      let same : failure.NoMemory ≡ why = cc is in
      subst (λ w. ServesBytes relay_terms told (Serve task) script (Err w) out out) same refl
  script_unchecked checking.Refused why is bad unfinished = absurd (cc is)

-- ---- a script that is made

module _ {K : Type 0} (told : K → Told) (count : ℕ) (old new : K) where
  pub made_told : TellsMade told count (Ok tt) old new → ServesBytes relay_terms told (Made count) [] (Ok tt) old new
  made_told t = record { bytes = t.line; due = a_made_line t.is; writes = record { appends = t.done refl; steady = t.steady refl } }

  pub made_stops : (why : MadeError) → TellsMade told count (Err why) old new → ServesBytes relay_terms told (Made count) [] (Err (failure_of_made why)) old new
  made_stops made.Write t = record { found = None; bytes = t.line; due = a_made_line t.is; may = refl; stops = record { cause = t.write refl; begins = t.front; counts = t.counts } }
  made_stops made.NoMemory t = record { found = None; bytes = t.line; due = a_made_line t.is; may = refl; stops = record { cause = t.own_want refl; begins = t.front; counts = t.counts } }
