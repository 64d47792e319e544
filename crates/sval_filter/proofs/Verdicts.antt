-- Each script has one verdict, and one thing is due of it.
use Rattle.std.specs.Prelude.{◌≡◌, ℕ, false, List, [], Option, Some, None, Result, Ok, Err, refl}
use Rattle.std.proofs.Common.{sym, ap, ◌∙◌}
use Rattle.sval_core.specs.Trees.{Tree, calls_of}
use Rattle.sval_json.specs.Json.{Json, compact}
use Rattle.sval_json.specs.Number.{Refusal, InvalidKey, InvalidNumber}
use Rattle.sval_json.specs.Shape.{json_of}
use Rattle.sval_json.specs.Steps.{written_in}
use Rattle.sval_json.specs.declared.style.Variants.TheVariants.{Inside}
use Rattle.sval_program.specs.declared.failure.Fault.{Fault}
use Rattle.sval_program.specs.declared.failure.Fault.TheVariants as fault
use Rattle.sval_program.specs.Jobs.{OneDue}
use Rattle.sval_program.specs.Laws.{OneVerdict}
use Rattle.sval_program.specs.Verdict.{Verdict, BadLine, BadCall, Unfinished, Whole, GiveOne}
use Rattle.sval_program.proofs.Verdicts.{no_second, one_verdict}
use Rattle.sval_filter.specs.Forms.{FilterForm}
use Rattle.sval_filter.specs.Pruned.{pruned}
use Rattle.sval_filter.specs.Serves.{FilterDue, a_text, is_bad_line, is_bad_call, is_unfinished, up_to_key, up_to_number, filter_terms}
use Rattle.sval_filter.specs.Verdict.{IsWritten, FilterAnswer, GivesLeft, IsFilterVerdict}

-- ---- of a tree

abbrev refused_with : Option Refusal → List ℕ → FilterAnswer
refused_with refused bytes = (refused, bytes)

json_or_none : {found : Result Json Refusal} {json : Json} {why : Refusal} → found ≡ Ok json → found ≡ Err why → ⊥
json_or_none e f = let both = sym e ∙ f in cc both

same_json : {found : Result Json Refusal} {json other : Json} → found ≡ Ok json → found ≡ Ok other → json ≡ other
same_json e f = let both = sym e ∙ f in cc both

same_refusal : {found : Result Json Refusal} {why other : Refusal} → found ≡ Err why → found ≡ Err other → why ≡ other
same_refusal e f = let both = sym e ∙ f in cc both

one_written : (answer other : FilterAnswer) (tree : Tree) → IsWritten answer.0 answer.1 tree → IsWritten other.0 other.1 tree → answer ≡ other
one_written (None, bytes) (None, more) tree a b = ap (refused_with None) (a.is_text ∙ ap compact (same_json a.shape b.shape) ∙ sym b.is_text)
one_written (None, bytes) (Some why, more) tree a b = absurd (json_or_none a.shape b.shape)
one_written (Some why, bytes) (None, more) tree a b = absurd (json_or_none b.shape a.shape)
one_written (Some why, bytes) (Some other, more) tree a b =
    ap (λ (w : Refusal). refused_with (Some w) bytes) (same_refusal a.shape b.shape) ∙ ap (refused_with (Some other)) (a.is_written ∙ sym b.is_written)

some_written : (tree : Tree) (found : Result Json Refusal) → json_of tree ≡ found → (answer : FilterAnswer) × IsWritten answer.0 answer.1 tree
some_written tree (Ok json) shape = ((None, compact json), record { json = json; shape = shape; is_text = refl })
some_written tree (Err why) shape = ((Some why, (written_in Inside (calls_of tree)).written), record { shape = shape; is_written = refl })

give_one : (asked : FilterForm) → GiveOne (GivesLeft asked)
give_one asked = record {
  some = λ tree. some_written (pruned asked.0 asked.1 tree) (json_of (pruned asked.0 asked.1 tree)) refl;
  one = λ tree answer other a b. one_written answer other (pruned asked.0 asked.1 tree) a b;
}

-- ---- of scripts

pub each_one : (asked : FilterForm) → OneVerdict (GivesLeft asked)
each_one asked = one_verdict (GivesLeft asked) (give_one asked)

-- ---- one thing is due

-- the fault that a verdict asks for, if it asks for one, and the bytes that are written
abbrev due_of : Verdict FilterAnswer → Option Fault × List ℕ
due_of (BadLine n) = (Some (fault.BadLine n), [])
due_of (BadCall n) = (Some (fault.BadCall n), [])
due_of Unfinished = (Some (fault.Unfinished false), [])
due_of (Whole (None, text)) = (None, text)
due_of (Whole (Some InvalidKey, written)) = (Some fault.InvalidKey, written)
due_of (Whole (Some InvalidNumber, written)) = (Some fault.InvalidNumber, written)

-- they are those that a verdict of the script asks for
record HasVerdictFor (asked : FilterForm) (script : List ℕ) (found : Option Fault) (bytes : List ℕ) : Type 0 where
  pub answer : Verdict FilterAnswer
  pub is : IsFilterVerdict answer script asked
  pub same_fault : found ≡ (due_of answer).0
  pub same_bytes : bytes ≡ (due_of answer).1

verdict_for : {asked : FilterForm} {script bytes : List ℕ} (found : Option Fault) → FilterDue asked script found bytes → HasVerdictFor asked script found bytes
verdict_for _ (a_text {text = text} is) = record { answer = Whole (None, text); is = is; same_fault = refl; same_bytes = refl }
verdict_for _ (is_bad_line {line = line} is) = record { answer = BadLine line; is = is; same_fault = refl; same_bytes = refl }
verdict_for _ (is_bad_call {line = line} is) = record { answer = BadCall line; is = is; same_fault = refl; same_bytes = refl }
verdict_for _ (is_unfinished is) = record { answer = Unfinished; is = is; same_fault = refl; same_bytes = refl }
verdict_for _ (up_to_key {written = written} is) = record { answer = Whole (Some InvalidKey, written); is = is; same_fault = refl; same_bytes = refl }
verdict_for _ (up_to_number {written = written} is) = record { answer = Whole (Some InvalidNumber, written); is = is; same_fault = refl; same_bytes = refl }

pub one_due : OneDue filter_terms
one_due asked script found other bytes others due also =
    let first = verdict_for found due in
    let second = verdict_for other also in
    let same : first.answer ≡ second.answer = no_second (GivesLeft asked) (give_one asked) first.answer second.answer script first.is second.is in (
      first.same_fault ∙ ap (λ (answer : Verdict FilterAnswer). (due_of answer).0) same ∙ sym second.same_fault,
      first.same_bytes ∙ ap (λ (answer : Verdict FilterAnswer). (due_of answer).1) same ∙ sym second.same_bytes,
    )
