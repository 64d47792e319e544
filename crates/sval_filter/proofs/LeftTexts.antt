-- What writing the JSON of what is left of a script's value leaves of a sink.
use Rattle.std.specs.Prelude.{◌≡◌, ℕ, true, List, Option, Some, None, Result, Ok, Err, refl}
use Rattle.std.proofs.Common.{sym, ap, subst, ◌∙◌}
use Rattle.sval_core.specs.Trees.{Tree, calls_of}
use Rattle.sval_core.proofs.Spellings.{calls_of-spells}
use Rattle.sval_io.specs.Sinks.{Told, IsSteady, NoCountFell}
use Rattle.sval_io.specs.declared.sink.SinkError.{SinkError}
use Rattle.sval_buffer.specs.Forest.{Forest, replayed}
use Rattle.sval_json.specs.Actions.{Outcome}
use Rattle.sval_json.specs.Json.{Json, compact}
use Rattle.sval_json.specs.Laws.{IsWrittenAs}
use Rattle.sval_json.specs.Number.{Refusal, InvalidKey, InvalidNumber}
use Rattle.sval_json.specs.Shape.{json_of}
use Rattle.sval_json.specs.Steps.{written_in}
use Rattle.sval_json.specs.Written.{IsBegunIn, IsRefusedIn, WritesSpelledTree}
use Rattle.sval_json.specs.declared.style.Variants.TheVariants.{Inside}
use Rattle.sval_json.proofs.WritingPlain.{spelling_written}
use Rattle.sval_json.proofs.WrittenOnce.{written_once}
use Rattle.sval_program.specs.declared.failure.Fault.{Fault}
use Rattle.sval_program.specs.declared.failure.Fault.TheVariants as fault
use Rattle.sval_program.specs.declared.failure.Failure.TheVariants as failure
use Rattle.sval_program.specs.Failures.{status_of_fault}
use Rattle.sval_program.specs.Jobs.{may_write, ServesBytes}
use Rattle.sval_program.specs.Outputs.{IsStopCause}
use Rattle.sval_program.specs.Statuses.{is_among}
use Rattle.sval_program.specs.Verdict.{Whole}
use Rattle.sval_filter.specs.Forms.{FilterForm}
use Rattle.sval_filter.specs.Pruned.{pruned}
use Rattle.sval_filter.specs.Serves.{FilterDue, a_text, up_to_key, up_to_number, filter_terms, IsLeftOf}
use Rattle.sval_filter.specs.Verdict.{IsWritten, IsFilterVerdict}

-- the fault where what is left has no JSON
abbrev pub fault_of : Refusal → Fault
fault_of InvalidKey = fault.InvalidKey
fault_of InvalidNumber = fault.InvalidNumber

-- before it something may be written
may_refuse : (why : Refusal) → may_write filter_terms (Some (fault_of why)) ≡ true
may_refuse InvalidKey = refl
may_refuse InvalidNumber = refl

is_known : (why : Refusal) → is_among (status_of_fault (fault_of why)) filter_terms.faults ≡ true
is_known InvalidKey = refl
is_known InvalidNumber = refl

-- what is written of what is left, as what is due
record DueOf (asked : FilterForm) (script bytes : List ℕ) : Type 0 where
  pub found : Option Fault
  pub due : FilterDue asked script found bytes
  pub may : may_write filter_terms found ≡ true

module _ (f : Forest) (script : List ℕ) (asked : FilterForm) (l : IsLeftOf f script asked) where
  -- what is left of the tree that the calls spell
  abbrev left : Tree
  left = pruned asked.0 asked.1 l.is.tree

  abbrev written : List ℕ
  written = (written_in Inside (replayed f)).written

  -- for any calls that spell it the steps write the same
  same_written : written ≡ (written_in Inside (calls_of left)).written
  same_written = ap (λ (o : Outcome). o.written) (written_once Inside (replayed f) (calls_of left) left l.is.left (calls_of-spells left l.is.left.0))

  json_written : (json : Json) → json_of left ≡ Ok json → written ≡ compact json
  json_written json shape = (subst (λ found. IsWrittenAs found (written_in Inside (replayed f))) shape (spelling_written Inside (replayed f) left l.is.left)).0

  whole : (refused : Option Refusal) (bytes : List ℕ) → IsWritten refused bytes left → IsFilterVerdict (Whole (refused, bytes)) script asked
  whole refused bytes is = record { calls = l.calls; good = l.good; is = record { tree = l.is.tree; spells = l.is.spells; is = is } }

  text_due : (bytes : List ℕ) (json : Json) → json_of left ≡ Ok json → bytes ≡ compact json → FilterDue asked script None bytes
  text_due bytes json shape is = a_text (whole None bytes (record { json = json; shape = shape; is_text = is }))

  refusal_due : (why : Refusal) → json_of left ≡ Err why → FilterDue asked script (Some (fault_of why)) written
  refusal_due InvalidKey shape = up_to_key (whole (Some InvalidKey) written (record { shape = shape; is_written = same_written }))
  refusal_due InvalidNumber shape = up_to_number (whole (Some InvalidNumber) written (record { shape = shape; is_written = same_written }))

  due_of : DueOf asked script written
  due_of = by_shape (json_of left) refl
    where
      by_shape : (found : Result Json Refusal) → json_of left ≡ found → DueOf asked script written
      by_shape (Ok json) shape = record { found = None; due = text_due written json shape (json_written json shape); may = refl }
      by_shape (Err why) shape = record { found = Some (fault_of why); due = refusal_due why shape; may = may_refuse why }

  module _ {K : Type 0} (told : K → Told) (old new : K) where
    pub writes_text : WritesSpelledTree Inside (replayed f) (told old) (told new) → IsSteady (told old) (told new) → ServesBytes filter_terms told asked script (Ok tt) old new
    writes_text w steady =
        let t = w left l.is.left in
        record { bytes = compact t.json; due = text_due (compact t.json) t.json t.shape refl; writes = record { appends = t.appends; steady = steady } }

    pub writes_to_refusal : (why : Refusal) → json_of left ≡ Err why → IsRefusedIn Inside why (replayed f) (told old) (told new) → ServesBytes filter_terms told asked script (Err (failure.Fault (fault_of why))) old new
    writes_to_refusal why shape r = record {
      all = record { bytes = written; due = refusal_due why shape; writes = record { appends = r.appends; steady = r.steady } };
      known = is_known why;
      untouched = λ e. let never = sym (may_refuse why) ∙ e in absurd (cc never);
    }

    pub stops_within : (why : SinkError) → IsStopCause why told old new → IsBegunIn Inside (replayed f) (told old) (told new) → NoCountFell (told old) (told new) → ServesBytes filter_terms told asked script (Err (failure.Write why)) old new
    stops_within why cause begins counts =
        let d = due_of in
        record { found = d.found; bytes = written; due = d.due; may = d.may; stops = record { cause = cause; begins = begins; counts = counts } }
