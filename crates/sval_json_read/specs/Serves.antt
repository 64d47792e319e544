-- What is due of an input, and what writing it makes of the sink.
use Rattle.std.specs.Prelude.{◌≡◌, ℕ, true, false, List, [], ◌∷◌, Option, Some, None, Result, Ok, IsUtf8, codes}
use Rattle.sval_core.specs.Trees.{calls_of}
use Rattle.sval_io.specs.Sinks.{Told}
use Rattle.sval_io.specs.declared.sink.SinkError.{SinkError}
use Rattle.sval_json.specs.Grammar.{JsonValue, Denotes}
use Rattle.sval_json.specs.Json.{Json, compact}
use Rattle.sval_json.specs.Laws.{IsTheValueOf}
use Rattle.sval_json.specs.Shape.{json_of}
use Rattle.sval_script.specs.Canon.{canon}
use Rattle.sval_script.specs.Lines.{Good, lines}
use Rattle.sval_program.specs.declared.failure.Fault.{Fault}
use Rattle.sval_program.specs.declared.failure.Fault.TheVariants as fault
use Rattle.sval_program.specs.declared.failure.Failure.{Failure}
use Rattle.sval_program.specs.declared.failure.Failure.TheVariants as failure
use Rattle.sval_program.specs.declared.status.TheConstants.{NOT_UTF8, BAD_JSON}
use Rattle.sval_program.specs.Jobs.{Terms}
use Rattle.sval_program.specs.Outputs.{WritesText}
use Rattle.sval_json_read.specs.declared.document.ReadError.{ReadError}
use Rattle.sval_json_read.specs.declared.document.ReadError.TheVariants as reading
use Rattle.sval_program.specs.declared.form.ReadForm.{ReadForm}
use Rattle.sval_program.specs.declared.form.ReadForm.TheVariants as form
use Rattle.sval_json_read.specs.Documents.{IsBadJson}
use Rattle.sval_program.specs.ReadForms.{read_form}
use Rattle.sval_json_read.specs.Trees.{tree_of, settled}

-- ---- what is due of a value

-- the text of the JSON of its tree, which denotes the settled value, and no other
pub record IsJsonOfValue (value : JsonValue) (text : List ℕ) : Type 0 where
  pub json : Json
  pub shape : json_of (tree_of value) ≡ Ok json
  pub is_text : text ≡ compact json
  pub means : IsTheValueOf json (settled value)

-- the canonical script of its tree, which spells the tree's canonical calls
pub record IsScriptOfValue (value : JsonValue) (text : List ℕ) : Type 0 where
  pub is_text : text ≡ canon (tree_of value)
  pub reads_back : lines text ≡ Good (calls_of (tree_of value))

abbrev pub IsTextOfValue : ReadForm → JsonValue → List ℕ → Type 0
IsTextOfValue form.Json = IsJsonOfValue
IsTextOfValue form.Calls = IsScriptOfValue

-- the input denotes a value, and this is the text that is due of it
pub record IsJsonTextDue (text input : List ℕ) (asked : ReadForm) : Type 0 where
  pub value : JsonValue
  pub denotes : Denotes input value
  pub is : IsTextOfValue asked value text

-- what is due of an input: the text of its value, or the fault that it has, before which nothing is written
pub data JsonReadDue : ReadForm → List ℕ → Option Fault → List ℕ → Type 0 where
  a_text : {asked : ReadForm} {input text : List ℕ} → IsJsonTextDue text input asked → JsonReadDue asked input None text
  no_utf8 : {asked : ReadForm} {input : List ℕ} → (IsUtf8 input → ⊥) → JsonReadDue asked input (Some fault.NotUtf8) []
  no_json : {asked : ReadForm} {input : List ℕ} {at : ℕ} → IsBadJson input at → JsonReadDue asked input (Some (fault.BadJson at)) []

-- the failure where bytes weren't read
abbrev pub failure_of_json_read : ReadError → Failure
failure_of_json_read (reading.NotUtf8 at) = failure.Fault fault.NotUtf8
failure_of_json_read (reading.BadJson at) = failure.Fault (fault.BadJson at)
failure_of_json_read reading.NoMemory = failure.NoMemory

-- what the program does
abbrev pub json_read_terms : Terms ReadForm
json_read_terms = record {
  form_named = read_form;
  Due = JsonReadDue;
  reads = λ form. true;
  partly = λ form. false;
  faults = NOT_UTF8 ∷ BAD_JSON ∷ [];
  written = [];
  usage = codes "usage: sval_json_read json|calls\n";
}

-- ---- writing what is due of a value

-- the text that is due was written, or a first part of it
pub record WritesDueText {K : Type 0} (told : K → Told) (input : List ℕ) (asked : ReadForm) (result : Result (Unit {0}) SinkError) (old new : K) : Type 0 where
  pub text : List ℕ
  pub due : IsJsonTextDue text input asked
  pub writes : WritesText result told text old new
