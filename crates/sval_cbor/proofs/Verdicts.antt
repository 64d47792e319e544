-- Each script has one verdict, and one thing is due of it.
use Rattle.std.specs.Prelude.{◌≡◌, ℕ, false, List, [], Option, Some, None, Result, Ok, Err, refl}
use Rattle.std.proofs.Common.{sym, ap, ◌∙◌}
use Rattle.sval_program.specs.declared.failure.Fault.{Fault}
use Rattle.sval_program.specs.declared.failure.Fault.TheVariants as fault
use Rattle.sval_program.specs.Jobs.{OneDue}
use Rattle.sval_program.specs.Laws.{OneVerdict}
use Rattle.sval_program.specs.Verdict.{Verdict, BadLine, BadCall, Unfinished, Whole, GiveOne}
use Rattle.sval_program.proofs.Verdicts.{no_second, one_verdict}
use Rattle.sval_cbor.specs.Cbor.{cbor}
use Rattle.sval_cbor.specs.Packs.{PackRefusal, BadKey, BadNumber, RawJson, NotInteger, map_packed, pack_of}
use Rattle.sval_cbor.specs.Serves.{CborDue, of_value, of_bad_line, of_bad_call, of_unfinished, of_bad_key, of_bad_number, of_raw, of_no_integer, cbor_terms}
use Rattle.sval_cbor.specs.Verdict.{GivesCbor, IsCborVerdict}

-- ---- each script has one verdict

give_one : GiveOne GivesCbor
give_one = record { some = λ tree. (map_packed cbor (pack_of tree), refl); one = λ tree due other a b. a ∙ sym b }

pub each_one : OneVerdict GivesCbor
each_one = one_verdict GivesCbor give_one

-- ---- one thing is due

-- the fault where a value doesn't pack
abbrev fault_of : PackRefusal → Fault
fault_of BadKey = fault.InvalidKey
fault_of BadNumber = fault.InvalidNumber
fault_of RawJson = fault.Raw
fault_of NotInteger = fault.NotInteger

-- the fault that a verdict asks for, if it asks for one, and the bytes that are written
abbrev due_of : Verdict (Result (List ℕ) PackRefusal) → Option Fault × List ℕ
due_of (BadLine n) = (Some (fault.BadLine n), [])
due_of (BadCall n) = (Some (fault.BadCall n), [])
due_of Unfinished = (Some (fault.Unfinished false), [])
due_of (Whole (Ok bytes)) = (None, bytes)
due_of (Whole (Err why)) = (Some (fault_of why), [])

-- they are those that a verdict of the script asks for
record HasVerdictFor (script : List ℕ) (found : Option Fault) (bytes : List ℕ) : Type 0 where
  pub answer : Verdict (Result (List ℕ) PackRefusal)
  pub is : IsCborVerdict answer script
  pub same_fault : found ≡ (due_of answer).0
  pub same_bytes : bytes ≡ (due_of answer).1

verdict_for : {asked : Unit {0}} {script bytes : List ℕ} (found : Option Fault) → CborDue asked script found bytes → HasVerdictFor script found bytes
verdict_for _ (of_value {bytes = bytes} is) = record { answer = Whole (Ok bytes); is = is; same_fault = refl; same_bytes = refl }
verdict_for _ (of_bad_line {line = line} is) = record { answer = BadLine line; is = is; same_fault = refl; same_bytes = refl }
verdict_for _ (of_bad_call {line = line} is) = record { answer = BadCall line; is = is; same_fault = refl; same_bytes = refl }
verdict_for _ (of_unfinished is) = record { answer = Unfinished; is = is; same_fault = refl; same_bytes = refl }
verdict_for _ (of_bad_key is) = record { answer = Whole (Err BadKey); is = is; same_fault = refl; same_bytes = refl }
verdict_for _ (of_bad_number is) = record { answer = Whole (Err BadNumber); is = is; same_fault = refl; same_bytes = refl }
verdict_for _ (of_raw is) = record { answer = Whole (Err RawJson); is = is; same_fault = refl; same_bytes = refl }
verdict_for _ (of_no_integer is) = record { answer = Whole (Err NotInteger); is = is; same_fault = refl; same_bytes = refl }

pub one_due : OneDue cbor_terms
one_due asked script why other bytes others due also =
    let first = verdict_for why due in
    let second = verdict_for other also in
    let same : first.answer ≡ second.answer = no_second GivesCbor give_one first.answer second.answer script first.is second.is in (
      first.same_fault ∙ ap (λ (answer : Verdict (Result (List ℕ) PackRefusal)). (due_of answer).0) same ∙ sym second.same_fault,
      first.same_bytes ∙ ap (λ (answer : Verdict (Result (List ℕ) PackRefusal)). (due_of answer).1) same ∙ sym second.same_bytes,
    )
