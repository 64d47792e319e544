-- What is due of a text of JSON that was read, and why one wasn't.
use Rattle.std.specs.Prelude.{◌≡◌, ℕ, List, [], Option, Some, None, Result, Ok, Err, IfOk, IfErr, refl}
use Rattle.std.proofs.Common.{sym, subst, ◌∙◌}
use Rattle.sval_label.specs.Calls.{Call}
use Rattle.sval_core.specs.Values.{makes}
use Rattle.sval_json.specs.declared.style.Variants.TheVariants.{Inside}
use Rattle.sval_json.specs.declared.error.ErrorKind.{ErrorKind}
use Rattle.sval_json.specs.declared.error.ErrorKind.TheVariants as kind
use Rattle.sval_json.specs.Given.{GivesJson}
use Rattle.sval_json.specs.Grammar.{JsonValue}
use Rattle.sval_json.specs.Laws.{IsTheValueOf}
use Rattle.sval_json.specs.Number.{InvalidKey, InvalidNumber}
use Rattle.sval_c.specs.declared.fault.Fault.{Fault}
use Rattle.sval_c.specs.declared.fault.Fault.TheVariants as fault
use Rattle.sval_json_read.specs.declared.document.ReadError.{ReadError}
use Rattle.sval_json_read.specs.declared.document.ReadError.TheVariants as reading
use Rattle.sval_json_read.specs.ReadErrors.{IsReadText, IsJsonReadError}
use Rattle.sval_json_read.specs.Trees.{tree_of, settled}
use Rattle.sval_json_read.proofs.DueTexts.{no_refusal}
use Rattle.sval_json_read.proofs.SettledTrees.{denoted-settles}
use Rattle.sval_c.specs.declared.report.Report.{Report}
use Rattle.sval_pretty.specs.Layout.{pretty}
use Rattle.sval_c.specs.declared.lack.Lack.{Lack}
use Rattle.sval_c.specs.declared.lack.Lack.TheVariants as lack
use Rattle.sval_c.specs.Due.{OfText, denotes, no_utf8, no_json, CheckDue, CompactDue, PrettyDue}
use Rattle.sval_c.specs.Lacks.{lack_of_json, IsLacking, GivesOrLacks}
use Rattle.sval_c.specs.Reports.{report_of_lack, Judges, has_fault, lacks_memory}

-- ---- why it wasn't read

pub unread : (Of : JsonValue → Option Fault → List ℕ → Type 0) (input : List ℕ) (why : ReadError) → IsJsonReadError input why → IsLacking (OfText Of input) (lack_of_json why)
unread Of input (reading.NotUtf8 at) cause = ([], no_utf8 at cause.0 cause.1)
unread Of input (reading.BadJson at) cause = ([], no_json at cause)
unread Of input reading.NoMemory cause = tt

pub judged : (input : List ℕ) (why : ReadError) (report : Report) → IsJsonReadError input why → report ≡ report_of_lack (lack_of_json why) → Judges (CheckDue input) report
judged input (reading.NotUtf8 at) report cause is = has_fault (fault.NotUtf8 at) (no_utf8 at cause.0 cause.1) is
judged input (reading.BadJson at) report cause is = has_fault (fault.BadJson at) (no_json at cause) is
judged input reading.NoMemory report cause is = lacks_memory is

-- ---- what is due of it

pub well : {calls : List Call} (input : List ℕ) → IsReadText input calls → CheckDue input None
well input r = denotes r.document.value r.document.denotes (refl, refl)

module _ (input : List ℕ) (calls : List Call) (r : IsReadText input calls) where
  pub compacted : (bytes : List ℕ) → GivesJson Inside (makes calls) (Ok bytes) → CompactDue input None bytes
  compacted bytes given =
      let is = given.tree (tree_of r.document.value) r.spells in
      let settles = denoted-settles r.document.denotes in
      let one : Ok settles.0 ≡ Ok is.json = sym settles.1 ∙ is.shape in
      let same : settles.0 ≡ is.json = cc one in
      denotes r.document.value r.document.denotes
      (record { json = is.json; shape = is.shape; is_text = is.text; means = subst (λ json. IsTheValueOf json (settled r.document.value)) same settles.2 })

  -- only memory may be wanting
  pub only_want : (found : ErrorKind) → GivesJson Inside (makes calls) (Err found) → found ≡ kind.NoMemory
  only_want kind.NoMemory given = refl
  only_want kind.IO given = absurd (given.io refl)
  only_want kind.InvalidKey given = absurd (no_refusal input calls r InvalidKey (given.tree_refused InvalidKey refl (tree_of r.document.value) r.spells))
  only_want kind.InvalidNumber given = absurd (no_refusal input calls r InvalidNumber (given.tree_refused InvalidNumber refl (tree_of r.document.value) r.spells))
  only_want kind.Generic given = let never = (given.generic refl).refuses in absurd (cc never)

-- ---- laid out

pub laid : (input text : List ℕ) → CompactDue input None text → PrettyDue input None (pretty text)
laid input text (denotes value is json) = denotes value is (text, json, refl)

still : {input before : List ℕ} {why : Fault} → CompactDue input (Some why) before → PrettyDue input (Some why) before
still (denotes value is json) = absurd json
still (no_utf8 at bad front) = no_utf8 at bad front
still (no_json at bad) = no_json at bad

pub unlaid : (input : List ℕ) (why : Lack) → IsLacking (CompactDue input) why → IsLacking (PrettyDue input) why
unlaid input (lack.Fault why) lacking = (lacking.0, still lacking.1)
unlaid input lack.NoMemory lacking = tt

-- what laying out answers, where only memory may be wanting
pub lays_out : {Bytes : Type 0} (input text : List ℕ) (made : Result Bytes Lack) (items : Bytes → List ℕ)
    → CompactDue input None text → IfOk made (λ bytes. items bytes ≡ pretty text) → IfErr made (λ why. why ≡ lack.NoMemory) → GivesOrLacks (PrettyDue input) made items
lays_out input text (Ok bytes) items due is want = subst (PrettyDue input None) (sym is) (laid input text due)
lays_out input text (Err why) items due is want = subst (IsLacking (PrettyDue input)) (sym want) tt
