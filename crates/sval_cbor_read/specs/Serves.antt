-- What is due of an input.
use Rattle.std.specs.Prelude.{◌≡◌, ◌<◌, ◌^◌, ℕ, true, false, List, [], ◌∷◌, length, Option, Some, None, Ok, Err, codes}
use Rattle.sval_core.specs.Real.{AreBytes}
use Rattle.sval_core.specs.Trees.{Tree, calls_of}
use Rattle.sval_json.specs.Grammar.{JsonValue}
use Rattle.sval_json.specs.Json.{Json, compact}
use Rattle.sval_json.specs.Laws.{IsTheValueOf}
use Rattle.sval_json.specs.Number.{InvalidKey}
use Rattle.sval_json.specs.Shape.{json_of}
use Rattle.sval_json.specs.Steps.{written_in}
use Rattle.sval_json.specs.declared.style.Variants.TheVariants.{Inside}
use Rattle.sval_script.specs.Canon.{canon}
use Rattle.sval_script.specs.Lines.{Good, lines}
use Rattle.sval_program.specs.declared.failure.Fault.{Fault}
use Rattle.sval_program.specs.declared.failure.Fault.TheVariants as fault
use Rattle.sval_program.specs.declared.failure.Failure.{Failure}
use Rattle.sval_program.specs.declared.failure.Failure.TheVariants as failure
use Rattle.sval_program.specs.declared.status.TheConstants.{INVALID_KEY, BAD_CBOR}
use Rattle.sval_program.specs.Jobs.{Terms}
use Rattle.sval_cbor_read.specs.declared.document.CborReadError.{CborReadError}
use Rattle.sval_cbor_read.specs.declared.document.CborReadError.TheVariants as reading
use Rattle.sval_program.specs.declared.form.ReadForm.{ReadForm}
use Rattle.sval_program.specs.declared.form.ReadForm.TheVariants as form
use Rattle.sval_cbor_read.specs.Document.{cbor_document_calls}
use Rattle.sval_program.specs.ReadForms.{read_form}
use Rattle.sval_cbor_read.specs.Items.{IsItemOf}

-- bytes as memory can hold them
pub record IsInMemory (input : List ℕ) : Type 0 where
  pub bytes : AreBytes input
  pub few : length input < 2 ^ 64

-- ---- what is due of an item

-- the text is that of the tree's JSON
pub record IsJsonOfTree (tree : Tree) (text : List ℕ) : Type 0 where
  pub json : Json
  pub shape : json_of tree ≡ Ok json
  pub is_text : text ≡ compact json

-- the tree's text: its JSON, which it may not have, or its canonical script
abbrev pub IsTextOfTree : ReadForm → Tree → List ℕ → Type 0
IsTextOfTree form.Json tree text = IsJsonOfTree tree text
IsTextOfTree form.Calls tree text = text ≡ canon tree

-- the input is an item, and this is the text that is due of it
pub record IsItemTextDue (text input : List ℕ) (asked : ReadForm) : Type 0 where
  pub tree : Tree
  pub item : IsItemOf input tree
  pub is : IsTextOfTree asked tree text

-- the text denotes the one value that the tree's JSON means, and no other
pub record TellsTreeValue (tree : Tree) (text : List ℕ) : Type 0 where
  pub json : Json
  pub shape : json_of tree ≡ Ok json
  pub is_text : text ≡ compact json
  pub value : JsonValue
  pub is : IsTheValueOf json value

-- JSON denotes what is meant; a canonical script spells the tree's canonical calls
abbrev pub IsMeantByItem : ReadForm → Tree → List ℕ → Type 0
IsMeantByItem form.Json tree text = TellsTreeValue tree text
IsMeantByItem form.Calls tree text = lines text ≡ Good (calls_of tree)

-- The input is an item that has no JSON, since what stands in the place of a key can't be one, and this is what the steps that write
-- JSON write of the document's calls before they refuse.
pub record IsWrittenUpToKey (written input : List ℕ) (asked : ReadForm) : Type 0 where
  pub json : asked ≡ form.Json
  pub tree : Tree
  pub item : IsItemOf input tree
  pub refused : json_of tree ≡ Err InvalidKey
  pub is_written : written ≡ (written_in Inside (cbor_document_calls item)).written

-- it is no item
abbrev pub IsNoItem : List ℕ → ReadForm → Type 0
IsNoItem input asked = (tree : Tree) → IsItemOf input tree → ⊥

-- what is due of an input: the text of its item, what is written up to a key, or no bytes where it is no item
pub data CborReadDue : ReadForm → List ℕ → Option Fault → List ℕ → Type 0 where
  a_text : {asked : ReadForm} {input text : List ℕ} (due : IsItemTextDue text input asked) → IsMeantByItem asked due.tree text → CborReadDue asked input None text
  up_to_key : {asked : ReadForm} {input written : List ℕ} → IsWrittenUpToKey written input asked → CborReadDue asked input (Some fault.InvalidKey) written
  no_item : {asked : ReadForm} {input : List ℕ} → IsNoItem input asked → CborReadDue asked input (Some fault.BadCbor) []

-- the failure where bytes weren't read
abbrev pub failure_of_cbor_read : CborReadError → Failure
failure_of_cbor_read (reading.Malformed at) = failure.Fault fault.BadCbor
failure_of_cbor_read (reading.Unsupported at) = failure.Fault fault.BadCbor
failure_of_cbor_read reading.NoMemory = failure.NoMemory

-- what the program does
abbrev pub cbor_read_terms : Terms ReadForm
cbor_read_terms = record {
  form_named = read_form;
  Due = CborReadDue;
  reads = λ form. true;
  partly = λ form. false;
  faults = INVALID_KEY ∷ BAD_CBOR ∷ [];
  written = INVALID_KEY ∷ [];
  usage = codes "usage: sval_cbor_read json|calls\n";
}

-- what is written of an item at most: in JSON what the steps write of the document's calls, which is the text that is due where a key
-- isn't refused
abbrev pub most_of : ReadForm → {input : List ℕ} {tree : Tree} → IsItemOf input tree → List ℕ
most_of form.Json item = (written_in Inside (cbor_document_calls item)).written
most_of form.Calls {tree = tree} item = canon tree
