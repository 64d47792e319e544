-- What is due of a script, the program's terms, and facts on writing what is due.
use Rattle.std.specs.Prelude.{◌≡◌, ℕ, true, false, List, [], ◌∷◌, Option, Some, None, codes}
use Rattle.sval_label.specs.Calls.{Call}
use Rattle.sval_core.specs.Values.{makes}
use Rattle.sval_buffer.specs.Forest.{Forest}
use Rattle.sval_json.specs.Number.{InvalidKey, InvalidNumber}
use Rattle.sval_program.specs.declared.failure.Fault.{Fault}
use Rattle.sval_program.specs.declared.failure.Fault.TheVariants as fault
use Rattle.sval_program.specs.declared.status.TheConstants.{BAD_LINE, BAD_CALL, UNFINISHED, INVALID_KEY, INVALID_NUMBER}
use Rattle.sval_program.specs.Jobs.{Terms}
use Rattle.sval_program.specs.Verdict.{BadLine, BadCall, Unfinished, Whole}
use Rattle.sval_script.specs.Lines.{Good, lines}
use Rattle.sval_filter.specs.Forms.{FilterForm}
use Rattle.sval_filter.specs.Pruning.{IsPruned}
use Rattle.sval_filter.specs.Verdict.{IsFilterVerdict}
use Rattle.sval_filter.specs.Words.{rule_and_paths}

-- ---- what is due of a script

-- by its verdict: the text of what is left, what is written of that up to a refusal, or no bytes before a fault of the script
pub data FilterDue : FilterForm → List ℕ → Option Fault → List ℕ → Type 0 where
  a_text : {asked : FilterForm} {script text : List ℕ} → IsFilterVerdict (Whole (None, text)) script asked → FilterDue asked script None text
  is_bad_line : {asked : FilterForm} {script : List ℕ} {line : ℕ} → IsFilterVerdict (BadLine line) script asked → FilterDue asked script (Some (fault.BadLine line)) []
  is_bad_call : {asked : FilterForm} {script : List ℕ} {line : ℕ} → IsFilterVerdict (BadCall line) script asked → FilterDue asked script (Some (fault.BadCall line)) []
  is_unfinished : {asked : FilterForm} {script : List ℕ} → IsFilterVerdict Unfinished script asked → FilterDue asked script (Some (fault.Unfinished false)) []
  up_to_key : {asked : FilterForm} {script written : List ℕ} → IsFilterVerdict (Whole (Some InvalidKey, written)) script asked → FilterDue asked script (Some fault.InvalidKey) written
  up_to_number : {asked : FilterForm} {script written : List ℕ} → IsFilterVerdict (Whole (Some InvalidNumber, written)) script asked → FilterDue asked script (Some fault.InvalidNumber) written

-- what the program does
abbrev pub filter_terms : Terms FilterForm
filter_terms = record {
  form_named = rule_and_paths;
  Due = FilterDue;
  reads = λ form. true;
  partly = λ form. false;
  faults = BAD_LINE ∷ BAD_CALL ∷ UNFINISHED ∷ INVALID_KEY ∷ INVALID_NUMBER ∷ [];
  written = INVALID_KEY ∷ INVALID_NUMBER ∷ [];
  usage = codes "usage: sval_filter drop|keep PATH...\n";
}

-- ---- writing what is due

-- the script's lines are calls of a whole value, and the replay of this forest spells what the rule and the paths leave of it
pub record IsLeftOf (left : Forest) (script : List ℕ) (asked : FilterForm) : Type 0 where
  pub calls : List Call
  pub good : lines script ≡ Good calls
  pub is : IsPruned (makes calls) asked.0 asked.1 left
