-- From what reading, checking and writing a script answered to what serving it says.
use Rattle.std.specs.Prelude.{◌≡◌, ℕ, true, false, List, [], Some, None, is_some, Result, Ok, Err, refl}
use Rattle.std.proofs.Common.{sym, subst, inr}
use Rattle.sval_label.specs.Calls.{Call}
use Rattle.sval_core.specs.Values.{makes}
use Rattle.sval_io.specs.Sinks.{Told}
use Rattle.sval_io.specs.declared.sink.SinkError.TheVariants as sink
use Rattle.sval_io.proofs.Appending.{writes_nothing}
use Rattle.sval_io.specs.Sources.{Supply}
use Rattle.sval_buffer.specs.Forest.{Forest, Holds, forest, replayed}
use Rattle.sval_check.specs.Checks.{IsFirstBadCall, IsUnfinished}
use Rattle.sval_check.specs.declared.error.CheckError.{CheckError}
use Rattle.sval_check.specs.declared.error.CheckError.TheVariants as check
use Rattle.sval_script.specs.Lines.{Good, lines}
use Rattle.sval_script.specs.Readings.{ScriptReading, answer_with}
use Rattle.sval_script.specs.declared.script.ScriptError.{ScriptError}
use Rattle.sval_script.specs.declared.script.ScriptError.TheVariants as reading
use Rattle.sval_program.specs.declared.failure.Fault.{Fault}
use Rattle.sval_program.specs.declared.failure.Fault.TheVariants as fault
use Rattle.sval_program.specs.declared.failure.Failure.{Failure}
use Rattle.sval_program.specs.declared.failure.Failure.TheVariants as failure
use Rattle.sval_program.specs.Failures.{status_of_fault, failure_of_script, failure_of_check}
use Rattle.sval_program.specs.Inputs.{HasRead}
use Rattle.sval_program.specs.Jobs.{FindsFault, ServesBytes}
use Rattle.sval_program.specs.Statuses.{is_among}
use Rattle.sval_program.proofs.ReadAnswers.{read_bad}
use Rattle.sval_program.specs.Verdict.{Whole}
use Rattle.sval_cbor.specs.declared.error.CborError.{CborError}
use Rattle.sval_cbor.specs.declared.error.CborError.TheVariants as error
use Rattle.sval_cbor.specs.declared.style.TheConstants.Style.{DEFAULT}
use Rattle.sval_cbor.specs.Packs.{PackRefusal, BadKey, BadNumber, RawJson, NotInteger}
use Rattle.sval_cbor.specs.Serves.{CborDue, of_value, of_bad_line, of_bad_call, of_unfinished, of_bad_key, of_bad_number, of_raw, of_no_integer, cbor_terms, failure_of_cbor}
use Rattle.sval_cbor.specs.Streamed.{IsChecked, IsCauseOfValue, AnswersBytes, AnswersDue, refusal_error}
use Rattle.sval_cbor.specs.Verdict.{IsCborVerdict}
use Rattle.sval_cbor.specs.Writing.{written_cbor}
use Rattle.sval_cbor.proofs.Captured.{captured_is_written}

-- nothing is written before a fault
faulty : {K : Type 0} (told : K → Told) (script : List ℕ) (why : Fault) (old new : K) → CborDue tt script (Some why) [] → is_among (status_of_fault why) cbor_terms.faults ≡ true → new ≡ old
    → ServesBytes cbor_terms told tt script (Err (failure.Fault why)) old new
faulty told script why old new due known same =
    subst (λ out. FindsFault cbor_terms told tt script why old out) (sym same) (record { all = record { bytes = []; due = due; writes = writes_nothing (told old) }; known = known; untouched = λ e. refl })

-- ---- what writing answered

module _ {K : Type 0} (told : K → Told) (script : List ℕ) (old new : K) where
  -- an error has one failure
  fails_so : (why failed : Failure) → Some why ≡ Some failed → ServesBytes cbor_terms told tt script (Err why) old new → ServesBytes cbor_terms told tt script (Err failed) old new
  fails_so why failed is f = let same : why ≡ failed = cc is in subst (λ (w : Failure). ServesBytes cbor_terms told tt script (Err w) old new) same f

  pub writes_whole : (due : Result (List ℕ) PackRefusal) → IsCborVerdict (Whole due) script → AnswersDue (Ok tt) (told old) due (told new) → ServesBytes cbor_terms told tt script (Ok tt) old new
  writes_whole (Ok bytes) verdict writes = record { bytes = bytes; due = of_value verdict; writes = writes }
  writes_whole (Err why) verdict (never, same) = absurd (cc never)

  -- the value doesn't pack
  refused_fails : (refusal : PackRefusal) (failed : Failure) → failure_of_cbor (refusal_error refusal) ≡ Some failed → IsCborVerdict (Whole (Err refusal)) script → (IsCauseOfValue (Err (refusal_error refusal)) → new ≡ old)
      → ServesBytes cbor_terms told tt script (Err failed) old new
  refused_fails BadKey failed is verdict left = fails_so (failure.Fault fault.InvalidKey) failed is (faulty told script fault.InvalidKey old new (of_bad_key verdict) refl (left tt))
  refused_fails BadNumber failed is verdict left = fails_so (failure.Fault fault.InvalidNumber) failed is (faulty told script fault.InvalidNumber old new (of_bad_number verdict) refl (left tt))
  refused_fails RawJson failed is verdict left = fails_so (failure.Fault fault.Raw) failed is (faulty told script fault.Raw old new (of_raw verdict) refl (left tt))
  refused_fails NotInteger failed is verdict left = fails_so (failure.Fault fault.NotInteger) failed is (faulty told script fault.NotInteger old new (of_no_integer verdict) refl (left tt))

  -- the sink declined
  declined_fails : (bytes : List ℕ) (why : CborError) (failed : Failure) → failure_of_cbor why ≡ Some failed → IsCborVerdict (Whole (Ok bytes)) script → AnswersBytes (Err why) (told old) bytes (told new)
      → ServesBytes cbor_terms told tt script (Err failed) old new
  declined_fails bytes error.Write failed is verdict w =
      fails_so (failure.Write sink.Failed) failed is (record { found = None; bytes = bytes; due = of_value verdict; may = refl; stops = record { cause = w.cause; begins = w.front; counts = w.counts } })
  declined_fails bytes error.NoMemory failed is verdict w =
      fails_so (failure.Write sink.NoMemory) failed is (record { found = None; bytes = bytes; due = of_value verdict; may = refl; stops = record { cause = inr w.cause; begins = w.front; counts = w.counts } })
  declined_fails bytes (error.BadCall at) failed is verdict w = absurd w
  declined_fails bytes error.Unfinished failed is verdict w = absurd w
  declined_fails bytes error.Refused failed is verdict w = absurd w
  declined_fails bytes error.Key failed is verdict w = absurd w
  declined_fails bytes error.Number failed is verdict w = absurd w
  declined_fails bytes error.Raw failed is verdict w = absurd w
  declined_fails bytes error.NotInteger failed is verdict w = absurd w

  pub write_fails : (due : Result (List ℕ) PackRefusal) (why : CborError) (failed : Failure) → failure_of_cbor why ≡ Some failed → IsCborVerdict (Whole due) script → AnswersDue (Err why) (told old) due (told new)
      → (IsCauseOfValue (Err why) → new ≡ old) → ServesBytes cbor_terms told tt script (Err failed) old new
  write_fails (Ok bytes) why failed is verdict answers left = declined_fails bytes why failed is verdict answers
  write_fails (Err refusal) why failed is verdict (e, same) left =
      let of_refusal : why ≡ refusal_error refusal = cc e in
      refused_fails refusal failed (subst (λ (w : CborError). failure_of_cbor w ≡ Some failed) of_refusal is) verdict (subst (λ (w : CborError). IsCauseOfValue (Err w) → new ≡ old) of_refusal left)

-- an error of writing is none of the check
refusal_fails : (refusal : PackRefusal) → is_some (failure_of_cbor (refusal_error refusal)) ≡ true
refusal_fails BadKey = refl
refusal_fails BadNumber = refl
refusal_fails RawJson = refl
refusal_fails NotInteger = refl

sink_fails : (why : CborError) (old new : Told) (bytes : List ℕ) → AnswersBytes (Err why) old bytes new → is_some (failure_of_cbor why) ≡ true
sink_fails error.Write old new bytes answers = refl
sink_fails error.NoMemory old new bytes answers = refl
sink_fails (error.BadCall at) old new bytes answers = absurd answers
sink_fails error.Unfinished old new bytes answers = absurd answers
sink_fails error.Refused old new bytes answers = absurd answers
sink_fails error.Key old new bytes answers = refl
sink_fails error.Number old new bytes answers = refl
sink_fails error.Raw old new bytes answers = refl
sink_fails error.NotInteger old new bytes answers = refl

pub of_writing : (due : Result (List ℕ) PackRefusal) (why : CborError) (old new : Told) → AnswersDue (Err why) old due new → is_some (failure_of_cbor why) ≡ true
of_writing (Ok bytes) why old new answers = sink_fails why old new bytes answers
of_writing (Err refusal) why old new (e, same) =
    let of_refusal : why ≡ refusal_error refusal = cc e in subst (λ (w : CborError). is_some (failure_of_cbor w) ≡ true) (sym of_refusal) (refusal_fails refusal)

-- ---- a script whose calls are good

module _ (script : List ℕ) (calls : List Call) (good : lines script ≡ Good calls) where
  -- what is captured of them is written as the verdict
  pub captured_verdict : IsChecked (makes calls) → (held : Forest) → forest calls ≡ Holds held → IsCborVerdict (Whole (written_cbor (replayed held))) script
  captured_verdict checked held taken =
      let (tree, spells) = checked.value.spells in record { calls = calls; good = good; is = record { tree = tree; spells = spells; is = captured_is_written DEFAULT calls tree held spells taken } }

  -- what checking found
  pub check_fails : {K : Type 0} (told : K → Told) (out : K) (why : CheckError) (failed : Failure) → failure_of_check false why ≡ Some failed
      → ((at : ℕ) → ◌≡◌ {A = Result (Unit {0}) CheckError} (Err why) (Err (check.BadCall at)) → IsFirstBadCall calls at)
      → (◌≡◌ {A = Result (Unit {0}) CheckError} (Err why) (Err check.Unfinished) → IsUnfinished (makes calls))
      → ServesBytes cbor_terms told tt script (Err failed) out out
  check_fails told out (check.BadCall n) failed is bad unfinished =
      fails_so told script out out (failure.Fault (fault.BadCall n)) failed is (faulty told script (fault.BadCall n) out out (of_bad_call {line = n} (record { calls = calls; good = good; is = bad n refl })) refl refl)
  check_fails told out check.Unfinished failed is bad unfinished =
      let u = unfinished refl in
      fails_so told script out out (failure.Fault (fault.Unfinished false)) failed is
      (faulty told script (fault.Unfinished false) out out (of_unfinished (record { calls = calls; good = good; is = record { viable = u.viable; no_tree = u.no_tree } })) refl refl)
  check_fails told out check.NoMemory failed is bad unfinished = fails_so told script out out failure.NoMemory failed is refl
  check_fails told out check.Refused failed is bad unfinished = cc is

-- ---- what a reader answered

module _ {reader : ScriptReading} {old new : Supply} (h : HasRead old reader new) where
  -- where it has no script the sink is as it was
  pub read_fails : {K : Type 0} (told : K → Told) (out : K) (why : ScriptError) → ◌≡◌ {A = Result (List Call) ScriptError} (Err why) (answer_with reader []) → ServesBytes cbor_terms told tt h.script (Err (failure_of_script why)) out out
  read_fails told out (reading.BadLine n) e = faulty told h.script (fault.BadLine n) out out (of_bad_line (read_bad h n e)) refl refl
  read_fails told out reading.NoMemory e = refl
