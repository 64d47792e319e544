-- The text that is due of a document, and what writing it leaves of a sink.
use Rattle.std.specs.Prelude.{◌≡◌, ◌<◌, ◌^◌, ℕ, List, length, Result, Ok, Err, refl}
use Rattle.std.proofs.Common.{sym, ap, subst, ◌∙◌, inr}
use Rattle.sval_label.specs.Calls.{Call}
use Rattle.sval_core.specs.Real.{IsPrintable}
use Rattle.sval_io.specs.declared.sink.SinkError.{SinkError}
use Rattle.sval_io.specs.declared.sink.SinkError.TheVariants.{Failed, NoMemory}
use Rattle.sval_io.specs.Sinks.{Told, WritesAll}
use Rattle.sval_json.specs.Json.{Json, compact}
use Rattle.sval_json.specs.Number.{Refusal}
use Rattle.sval_json.specs.Shape.{json_of}
use Rattle.sval_json.specs.Laws.{IsTheValueOf}
use Rattle.sval_json.proofs.OneValue.{denotes_one}
use Rattle.sval_script.specs.Canon.{canon}
use Rattle.sval_script.proofs.CanonicalScripts.{canon-reads_back}
use Rattle.sval_program.specs.Outputs.{WritesText}
use Rattle.sval_program.specs.declared.form.ReadForm.{ReadForm}
use Rattle.sval_program.specs.declared.form.ReadForm.TheVariants as form
use Rattle.sval_json_read.specs.Trees.{tree_of, settled}
use Rattle.sval_json_read.specs.Calls.{document_calls}
use Rattle.sval_json_read.specs.Documents.{IsDocument}
use Rattle.sval_json_read.specs.ReadErrors.{IsReadText}
use Rattle.sval_json_read.specs.Tokens.{Placed}
use Rattle.sval_json_read.specs.Serves.{IsJsonTextDue, WritesDueText}
use Rattle.sval_json_read.proofs.Documents.{document-calls}
use Rattle.sval_json_read.proofs.SettledTrees.{denoted-settles}
use Rattle.sval_json_read.proofs.WritableTrees.{denoted-printable}

-- an input has one text that is due
pub one_text : (input : List ℕ) (asked : ReadForm) (text other : List ℕ) → IsJsonTextDue text input asked → IsJsonTextDue other input asked → text ≡ other
one_text input form.Json text other d e =
    let same = denotes_one input d.value e.value d.denotes e.denotes in
    let shape : json_of (tree_of d.value) ≡ Ok e.is.json = ap (λ value. json_of (tree_of value)) same ∙ e.is.shape in
    let json : Ok d.is.json ≡ Ok e.is.json = sym d.is.shape ∙ shape in
    let one : d.is.json ≡ e.is.json = cc json in
    d.is.is_text ∙ ap compact one ∙ sym e.is.is_text
one_text input form.Calls text other d e =
    d.is.is_text ∙ ap (λ value. canon (tree_of value)) (denotes_one input d.value e.value d.denotes e.denotes) ∙ sym e.is.is_text

-- a document that was read is so by its calls
abbrev pub read_text_of : {input : List ℕ} {tokens : List Placed} → IsDocument input tokens → IsReadText input (document_calls tokens)
read_text_of {input} {tokens} d = record { tokens = tokens; document = d; same = refl; spells = document-calls input tokens d }

-- ---- a document in JSON

module _ (input : List ℕ) (calls : List Call) (r : IsReadText input calls) where
  settles : (json : Json) × (json_of (tree_of r.document.value) ≡ Ok json) × IsTheValueOf json (settled r.document.value)
  settles = denoted-settles r.document.denotes

  -- it has a JSON
  has_json : (json : Json) × (json_of (tree_of r.document.value) ≡ Ok json)
  has_json = (settles.0, settles.1)

  pub no_refusal : (why : Refusal) → json_of (tree_of r.document.value) ≡ Err why → ⊥
  no_refusal why refused = let never : Ok settles.0 ≡ Err why = sym settles.1 ∙ refused in cc never

  json_due : (json : Json) → json_of (tree_of r.document.value) ≡ Ok json → IsJsonTextDue (compact json) input form.Json
  json_due json shape =
      let one : Ok settles.0 ≡ Ok json = sym settles.1 ∙ shape in
      let same : settles.0 ≡ json = cc one in
      record { value = r.document.value; denotes = r.document.denotes; is = record { json = json; shape = shape; is_text = refl; means = subst (λ json. IsTheValueOf json (settled r.document.value)) same settles.2 } }

  module _ {K : Type 0} (told : K → Told) (old new : K) where
    text_written : (text : List ℕ) (result : Result (Unit {0}) SinkError) → WritesAll result (told old) text (told new) → WritesText result told text old new
    text_written text (Ok done) w = w
    text_written text (Err Failed) w = record {
      stops = record { cause = w.cause; begins = w.front; counts = w.counts };
      full = w.full;
      short = λ failed. w.part;
      no_memory_short = λ never. cc never;
    }
    text_written text (Err NoMemory) w = record {
      stops = record { cause = inr w.cause; begins = w.front; counts = w.counts };
      full = w.full;
      short = λ never. cc never;
      no_memory_short = λ lacking. inr w.part;
    }

    -- its JSON was written
    pub writes_json : (result : Result (Unit {0}) SinkError) → ((json : Json) → json_of (tree_of r.document.value) ≡ Ok json → WritesAll result (told old) (compact json) (told new))
        → WritesDueText told input form.Json result old new
    writes_json result w = let (json, shape) = has_json in record { text = compact json; due = json_due json shape; writes = text_written (compact json) result (w json shape) }

  -- ---- a document as a script

  pub printable : length input < 2 ^ 64 → IsPrintable (tree_of r.document.value)
  printable few = denoted-printable few r.document.denotes

  pub script_due : {K : Type 0} {told : K → Told} {old new : K} {result : Result (Unit {0}) SinkError} → length input < 2 ^ 64 → WritesText result told (canon (tree_of r.document.value)) old new
      → WritesDueText told input form.Calls result old new
  script_due few w = record {
    text = canon (tree_of r.document.value);
    due = record { value = r.document.value; denotes = r.document.denotes; is = record { is_text = refl; reads_back = canon-reads_back (tree_of r.document.value) (printable few) } };
    writes = w;
  }

  -- its script was written
  pub writes_script : {K : Type 0} (told : K → Told) (old new : K) (result : Result (Unit {0}) SinkError) → length input < 2 ^ 64
      → WritesAll result (told old) (canon (tree_of r.document.value)) (told new) → WritesDueText told input form.Calls result old new
  writes_script told old new result few w = script_due few (text_written told old new (canon (tree_of r.document.value)) result w)
