-- The text that is due of an item, and what writing it leaves of a sink.
use Rattle.std.specs.Prelude.{◌≡◌, ℕ, true, List, Option, Some, None, Result, Ok, Err, refl}
use Rattle.std.proofs.Common.{sym, ap, subst, ◌∙◌, inr}
use Rattle.sval_label.specs.Calls.{Call}
use Rattle.sval_core.specs.Law.{Rose}
use Rattle.sval_core.specs.Trees.{Tree}
use Rattle.sval_io.specs.declared.sink.SinkError.TheVariants.{Failed, NoMemory}
use Rattle.sval_io.specs.Sinks.{Told, IsSteady, NoCountFell, Appends, AppendsFront, WritesWhole, WritesFront}
use Rattle.sval_io.specs.declared.sink.SinkError.{SinkError}
use Rattle.sval_json.specs.declared.style.Variants.TheVariants.{Inside}
use Rattle.sval_json.specs.Json.{Json, compact}
use Rattle.sval_json.specs.Laws.{IsWrittenAs}
use Rattle.sval_json.specs.Number.{Refusal, InvalidKey, InvalidNumber}
use Rattle.sval_json.specs.Shape.{json_of}
use Rattle.sval_json.specs.Steps.{written_in}
use Rattle.sval_json.specs.Written.{IsWrittenIn, IsBegunIn, IsRefusedIn}
use Rattle.sval_json.proofs.Streamed.{writes_spelled}
use Rattle.sval_json.proofs.WritingPlain.{spelling_written}
use Rattle.sval_script.specs.Canon.{canon}
use Rattle.sval_script.proofs.CanonicalScripts.{canon-reads_back}
use Rattle.sval_json.proofs.Meaning.{text_means}
use Rattle.sval_program.specs.declared.failure.Fault.{Fault}
use Rattle.sval_program.specs.declared.failure.Fault.TheVariants as fault
use Rattle.sval_program.specs.declared.failure.Failure.TheVariants as failure
use Rattle.sval_program.specs.Jobs.{may_write, ServesBytes}
use Rattle.sval_program.specs.Outputs.{StopsWithin}
use Rattle.sval_program.specs.declared.form.ReadForm.{ReadForm}
use Rattle.sval_program.specs.declared.form.ReadForm.TheVariants as form
use Rattle.sval_cbor_read.specs.Document.{cbor_document_calls}
use Rattle.sval_cbor_read.specs.Items.{IsItemOf}
use Rattle.sval_cbor_read.specs.JsonFronts.{IsJsonOfItem}
use Rattle.sval_cbor_read.specs.ReadErrors.{IsReadItem}
use Rattle.sval_cbor_read.specs.Serves.{IsInMemory, IsItemTextDue, IsJsonOfTree, TellsTreeValue, IsMeantByItem, IsWrittenUpToKey, CborReadDue, a_text, up_to_key, cbor_read_terms, most_of}
use Rattle.sval_cbor_read.proofs.Complete.{item_is_read}
use Rattle.sval_cbor_read.proofs.ItemTrees.{item_printable, item_promises}
use Rattle.sval_cbor_read.proofs.OneReading.{one_document}
use Rattle.sval_cbor_read.proofs.OneTree.{item_has_one_tree}
use Rattle.sval_cbor_read.proofs.RealItems.{item_is_real, refused_by_key}

-- ---- what is written of an item

pub one_tree : {input : List ℕ} {tree other : Tree} → IsItemOf input tree → IsItemOf input other → tree ≡ other
one_tree {input} {tree} {other} i j = (item_has_one_tree input _ _ tree other i j).0

one_calls : {input : List ℕ} {tree other : Tree} (i : IsItemOf input tree) (j : IsItemOf input other) → cbor_document_calls i ≡ cbor_document_calls j
one_calls {input} {tree} {other} i j = one_document input (cbor_document_calls i) (cbor_document_calls j) (item_is_read input tree i).0 (item_is_read input other j).0

-- bytes have one text at most that is written of them
pub one_most : (asked : ReadForm) {input : List ℕ} {tree other : Tree} (i : IsItemOf input tree) (j : IsItemOf input other) → most_of asked i ≡ most_of asked j
one_most form.Json i j = ap (λ calls. (written_in Inside calls).written) (one_calls i j)
one_most form.Calls i j = ap canon (one_tree i j)

-- the document's calls are written as the tree's JSON
json_written : {input : List ℕ} {tree : Tree} (i : IsItemOf input tree) (json : Json) → json_of tree ≡ Ok json → most_of form.Json i ≡ compact json
json_written {input} {tree} i json shape =
    (subst (λ found. IsWrittenAs found (written_in Inside (cbor_document_calls i))) shape (spelling_written Inside (cbor_document_calls i) tree (item_is_read input tree i).1)).0

-- the text that is due is all that is written
pub due_is_most : {input text : List ℕ} (asked : ReadForm) {tree : Tree} (i : IsItemOf input tree) → IsItemTextDue text input asked → text ≡ most_of asked i
due_is_most form.Json i d = d.is.is_text ∙ sym (json_written d.item d.is.json d.is.shape) ∙ one_most form.Json d.item i
due_is_most form.Calls i d = d.is ∙ one_most form.Calls d.item i

pub up_to_key_is_most : {input written : List ℕ} (asked : ReadForm) {tree : Tree} (i : IsItemOf input tree) → IsWrittenUpToKey written input asked → written ≡ most_of asked i
up_to_key_is_most form.Json i w = w.is_written ∙ one_most form.Json w.item i
up_to_key_is_most form.Calls i w = let never = w.json in cc never

-- ---- what is due of an item

-- what is written of an item, as the text that is due or as what is written up to a key
pub record DueOf (asked : ReadForm) (input bytes : List ℕ) : Type 0 where
  pub found : Option Fault
  pub due : CborReadDue asked input found bytes
  pub may : may_write cbor_read_terms found ≡ true

module _ {input : List ℕ} {tree : Tree} (m : IsInMemory input) (item : IsItemOf input tree) where
  means_json : (json : Json) → json_of tree ≡ Ok json → IsMeantByItem form.Json tree (most_of form.Json item)
  means_json json shape =
      let meant = text_means Inside tree json (item_is_real input tree m.bytes item) (item_promises m item) shape in
      record { json = json; shape = shape; is_text = json_written item json shape; value = meant.0; is = meant.1 }

  pub json_due : (json : Json) → json_of tree ≡ Ok json → CborReadDue form.Json input None (most_of form.Json item)
  json_due json shape = a_text (record { tree = tree; item = item; is = record { json = json; shape = shape; is_text = json_written item json shape } }) (means_json json shape)

  pub tells_json : {text : List ℕ} → IsJsonOfTree tree text → TellsTreeValue tree text
  tells_json is = subst (TellsTreeValue tree) (json_written item is.json is.shape ∙ sym is.is_text) (means_json is.json is.shape)

  json_text_due : {text : List ℕ} → IsJsonOfTree tree text → CborReadDue form.Json input None text
  json_text_due is = a_text (record { tree = tree; item = item; is = is }) (tells_json is)

  pub script_due : CborReadDue form.Calls input None (most_of form.Calls item)
  script_due = a_text (record { tree = tree; item = item; is = refl }) (canon-reads_back tree (item_printable m item))

  pub key_due : json_of tree ≡ Err InvalidKey → CborReadDue form.Json input (Some fault.InvalidKey) (most_of form.Json item)
  key_due refused = up_to_key (record { json = refl; tree = tree; item = item; refused = refused; is_written = refl })

  pub due_of : (asked : ReadForm) → DueOf asked input (most_of asked item)
  due_of form.Calls = record { found = None; due = script_due; may = refl }
  due_of form.Json = by_shape (json_of tree) refl
    where
      by_refusal : (why : Refusal) → json_of tree ≡ Err why → DueOf form.Json input (most_of form.Json item)
      by_refusal InvalidKey refused = record { found = Some fault.InvalidKey; due = key_due refused; may = refl }
      by_refusal InvalidNumber refused = let never = refused_by_key input tree InvalidNumber item refused in absurd (cc never)

      by_shape : (shape : Result Json Refusal) → json_of tree ≡ shape → DueOf form.Json input (most_of form.Json item)
      by_shape (Ok json) shape = record { found = None; due = json_due json shape; may = refl }
      by_shape (Err why) refused = by_refusal why refused

-- ---- a text that is due

-- a first part of it was written
stops_for : {K : Type 0} (told : K → Told) (old new : K) (text : List ℕ) (why : SinkError) → WritesFront why (told old) text (told new) → StopsWithin why told text old new
stops_for told old new text Failed w = record { cause = w.cause; begins = w.front; counts = w.counts }
stops_for told old new text NoMemory w = record { cause = inr w.cause; begins = w.front; counts = w.counts }

module _ {input text : List ℕ} (m : IsInMemory input) (is : IsJsonOfItem input text) {K : Type 0} (told : K → Told) (old new : K) where
  pub writes_text : WritesWhole (told old) text (told new) → ServesBytes cbor_read_terms told form.Json input (Ok tt) old new
  writes_text w = record { bytes = text; due = json_text_due m is.item is.is; writes = w }

  pub text_stops : (why : SinkError) → WritesFront why (told old) text (told new) → ServesBytes cbor_read_terms told form.Json input (Err (failure.Write why)) old new
  text_stops why w = record { found = None; bytes = text; due = json_text_due m is.item is.is; may = refl; stops = stops_for told old new text why w }

-- ---- a document in JSON

module _ (input : List ℕ) (calls : List Call) (r : IsReadItem input calls) where
  is_most : (written_in Inside calls).written ≡ most_of form.Json r.item
  is_most = ap (λ calls. (written_in Inside calls).written) r.same

  pub no_number_refusal : json_of r.tree ≡ Err InvalidNumber → ⊥
  no_number_refusal refused = let never = refused_by_key input r.tree InvalidNumber r.item refused in cc never

  module _ {K : Type 0} (told : K → Told) (old new : K) where
    pub writes_json : IsInMemory input → IsWrittenIn Inside calls (told old) (told new) → IsSteady (told old) (told new) → ServesBytes cbor_read_terms told form.Json input (Ok tt) old new
    writes_json m w steady =
        let tree = writes_spelled w r.tree r.spells in
        record {
          bytes = most_of form.Json r.item;
          due = json_due m r.item tree.json tree.shape;
          writes = record { appends = subst (λ bytes. Appends (told old) bytes (told new)) is_most w.appends; steady = steady };
        }

    pub stops_at_key : IsInMemory input → IsRefusedIn Inside InvalidKey calls (told old) (told new) → json_of r.tree ≡ Err InvalidKey → ServesBytes cbor_read_terms told form.Json input (Err (failure.Fault fault.InvalidKey)) old new
    stops_at_key m w refused = record {
      all = record {
        bytes = most_of form.Json r.item;
        due = key_due m r.item refused;
        writes = record { appends = subst (λ bytes. Appends (told old) bytes (told new)) is_most w.appends; steady = w.steady };
      };
      known = refl;
      untouched = λ never. absurd (cc never);
    }

    begins_json : IsBegunIn Inside calls (told old) (told new) → AppendsFront (told old) (most_of form.Json r.item) (told new)
    begins_json begins = subst (λ bytes. AppendsFront (told old) bytes (told new)) is_most begins

    pub json_fault : IsInMemory input → Rose (told old).faults (told new).faults → IsBegunIn Inside calls (told old) (told new) → NoCountFell (told old) (told new)
        → ServesBytes cbor_read_terms told form.Json input (Err (failure.Write Failed)) old new
    json_fault m rose begins counts =
        let d = due_of m r.item form.Json in
        record { found = d.found; bytes = most_of form.Json r.item; due = d.due; may = d.may; stops = record { cause = rose; begins = begins_json begins; counts = counts } }

    pub json_want : IsInMemory input → Rose (told old).wants (told new).wants → IsBegunIn Inside calls (told old) (told new) → NoCountFell (told old) (told new)
        → ServesBytes cbor_read_terms told form.Json input (Err (failure.Write NoMemory)) old new
    json_want m rose begins counts =
        let d = due_of m r.item form.Json in
        record { found = d.found; bytes = most_of form.Json r.item; due = d.due; may = d.may; stops = record { cause = inr rose; begins = begins_json begins; counts = counts } }

  -- ---- a document as a script

  module _ {K : Type 0} (told : K → Told) (old new : K) where
    -- its script was written, or a first part of it
    pub writes_script : IsInMemory input → WritesWhole (told old) (canon r.tree) (told new) → ServesBytes cbor_read_terms told form.Calls input (Ok tt) old new
    writes_script m w = record { bytes = canon r.tree; due = script_due m r.item; writes = w }

    pub script_stops : IsInMemory input → (why : SinkError) → WritesFront why (told old) (canon r.tree) (told new) → ServesBytes cbor_read_terms told form.Calls input (Err (failure.Write why)) old new
    script_stops m why w = record { found = None; bytes = canon r.tree; due = script_due m r.item; may = refl; stops = stops_for told old new (canon r.tree) why w }
