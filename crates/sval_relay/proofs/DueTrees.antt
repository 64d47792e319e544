-- What writing trees leaves of a sink, as what is due of a script that spells them.
use Rattle.std.specs.Prelude.{◌≡◌, ℕ, List, [], ◌∷◌, ◌++◌, Option, Some, None, true, false, Result, Ok, Err, refl}
use Rattle.std.specs.List.{AllByRecursion}
use Rattle.std.proofs.Common.{sym, subst, ◌∙◌}
use Rattle.sval_label.specs.Calls.{Call}
use Rattle.sval_core.specs.Real.{IsPrintable}
use Rattle.sval_core.specs.Spells.{Spells}
use Rattle.sval_core.specs.Trees.{Tree, calls_of}
use Rattle.sval_io.specs.Sinks.{Told, AppendsFront}
use Rattle.sval_io.specs.declared.sink.SinkError.{SinkError}
use Rattle.sval_io.specs.declared.sink.SinkError.TheVariants as sink
use Rattle.sval_json.specs.Json.{Json, compact}
use Rattle.sval_json.specs.Number.{Refusal, InvalidKey, InvalidNumber}
use Rattle.sval_json.specs.Promises.{KeepsPromises}
use Rattle.sval_json.specs.Shape.{json_in, on_ok, map_ok}
use Rattle.sval_json.specs.declared.style.Variants.{Variants}
use Rattle.sval_json.proofs.Meaning.{text_means}
use Rattle.sval_script.specs.Canon.{canon}
use Rattle.sval_script.specs.Lines.{Good, lines}
use Rattle.sval_script.proofs.CanonicalScripts.{canon-reads_back}
use Rattle.sval_program.specs.declared.failure.Fault.{Fault}
use Rattle.sval_program.specs.declared.failure.Fault.TheVariants as fault
use Rattle.sval_program.specs.Jobs.{may_write, ServesBytes, StopsWithinDue}
use Rattle.sval_program.specs.Outputs.{IsWantIf, StopsIf}
use Rattle.sval_program.proofs.Growing.{stopped_by_fault, stopped_by_want}
use Rattle.sval_relay.specs.declared.way.Way.{Way}
use Rattle.sval_relay.specs.declared.way.Task.{Task}
use Rattle.sval_relay.specs.declared.way.Form.TheVariants.{Serve}
use Rattle.sval_relay.specs.declared.relaying.RelayError.{RelayError}
use Rattle.sval_relay.specs.declared.relaying.RelayError.TheVariants as answer
use Rattle.sval_relay.specs.Relays.{TellsValue, IsMeant, AreMeant, MeansAll}
use Rattle.sval_relay.specs.Serves.{RelayDue, a_text, up_to_key, up_to_number, relay_terms, failure_of_relay, ended_by}
use Rattle.sval_relay.specs.Verdict.{TreeFormat, JsonIn, Script, tree_text, asked_in, ending, texts, left, one_in, all_in, SpellTrees}
use Rattle.sval_relay.specs.Ways.{is_captured, is_partly_for}
use Rattle.sval_relay.specs.WrittenTrees.{IsCauseAmong, WritesTrees, WritesTreeBy, WritesListIn, IsWantOfTree, IsWantAmong, AreTrees}
use Rattle.sval_relay.proofs.LeftTexts.{texts_left}
use Rattle.sval_relay.proofs.RelayAnswers.{verdict_of}
use Rattle.sval_relay.proofs.Served.{as_list, want_of_one, want_among_many}
use Rattle.sval_relay.proofs.Verdicts.{one_spelled}

-- ---- the texts of trees are what is meant

json_means : (style : Variants) (tree : Tree) (text : List ℕ) → IsPrintable tree → KeepsPromises tree → map_ok compact (json_in style tree) ≡ Ok text → TellsValue style tree text
json_means style tree text p promises e = by_json (json_in style tree) refl e
  where
    by_json : (found : Result Json Refusal) → json_in style tree ≡ found → map_ok compact found ≡ Ok text → TellsValue style tree text
    by_json (Ok json) shape is =
        let means = text_means style tree json p.0 promises shape in
        let same : compact json ≡ text = cc is in
        record { json = json; shape = shape; is_text = sym same; value = means.0; is = means.1 }
    by_json (Err why) shape is = absurd (cc is)

tree_means : (asked : TreeFormat) (tree : Tree) (text : List ℕ) → IsPrintable tree → tree_text asked tree ≡ Ok text → IsMeant asked tree text
tree_means (JsonIn style) tree text p e = λ promises. json_means style tree text p promises e
tree_means Script tree text p e = let same : canon tree ≡ text = cc e in subst (λ text. lines text ≡ Good (calls_of tree)) same (canon-reads_back tree p)

trees_mean : (asked : TreeFormat) (end : List ℕ) (trees : List Tree) (text : List ℕ) → AllByRecursion IsPrintable trees → texts asked end trees ≡ Ok text → AreMeant asked end trees text
trees_mean asked end [] text p e = let same : [] ≡ text = cc e in sym same
trees_mean asked end (tree ∷ trees) text p e = by_texts (tree_text asked tree) (texts asked end trees) refl refl e (λ more h. trees_mean asked end trees more p.1 h)
  where
    by_texts : (first later : Result (List ℕ) Refusal) → tree_text asked tree ≡ first → texts asked end trees ≡ later → on_ok first (λ t. map_ok (λ more. t ++ (end ++ more)) later) ≡ Ok text
        → ((more : List ℕ) → texts asked end trees ≡ Ok more → AreMeant asked end trees more) → AreMeant asked end (tree ∷ trees) text
    by_texts (Ok first) (Ok more) f h is rest =
        let same : first ++ (end ++ more) ≡ text = cc is in (first, more, sym same, tree_means asked tree first p.0 f, rest more h)
    by_texts (Ok first) (Err why) f h is rest = absurd (cc is)
    by_texts (Err why) later f h is rest = absurd (cc is)

-- ---- what is due

-- the bytes are due, and something may be written of them
record IsDue (task : Task) (script bytes : List ℕ) : Type 0 where
  pub found : Option Fault
  pub due : RelayDue (Serve task) script found bytes
  pub may : may_write relay_terms found ≡ true

module _ (script : List ℕ) (task : Task) (calls : List Call) (trees : List Tree) (is : lines script ≡ Good calls) (spell : SpellTrees task.many calls trees) (printable : AllByRecursion IsPrintable trees) where
  means : (text : List ℕ) → texts (asked_in task.way) (ending (asked_in task.way) task.many) trees ≡ Ok text → MeansAll text script task
  means text e others them other spell_them =
      let both : Good calls ≡ Good others = sym is ∙ other in
      let same : others ≡ calls = cc both in
      let one : trees ≡ them = one_spelled task.many calls trees them spell (subst (λ x. SpellTrees task.many x them) same spell_them) in
      subst (λ trees. AreMeant (asked_in task.way) (ending (asked_in task.way) task.many) trees text) one (trees_mean (asked_in task.way) (ending (asked_in task.way) task.many) trees text printable e)

  -- what the trees leave
  left_is_due : IsDue task script (left (asked_in task.way) (ending (asked_in task.way) task.many) trees)
  left_is_due = by_texts (texts (asked_in task.way) (ending (asked_in task.way) task.many) trees) refl
    where
      by_texts : (found : Result (List ℕ) Refusal) → texts (asked_in task.way) (ending (asked_in task.way) task.many) trees ≡ found → IsDue task script (left (asked_in task.way) (ending (asked_in task.way) task.many) trees)
      by_texts (Ok text) e =
          let same = texts_left (asked_in task.way) (ending (asked_in task.way) task.many) trees text e in
          record { found = None; due = subst (RelayDue (Serve task) script None) (sym same) (a_text (verdict_of script task calls trees is spell (Ok text) e) (means text e)); may = refl }
      by_texts (Err InvalidKey) e = record { found = Some fault.InvalidKey; due = up_to_key (verdict_of script task calls trees is spell (Err InvalidKey) e); may = refl }
      by_texts (Err InvalidNumber) e = record { found = Some fault.InvalidNumber; due = up_to_number (verdict_of script task calls trees is spell (Err InvalidNumber) e); may = refl }

  module _ {K : Type 0} (told : K → Told) (old new : K) where
    stopped : (why : SinkError) → AppendsFront (told old) (left (asked_in task.way) (ending (asked_in task.way) task.many) trees) (told new)
        → StopsIf (is_partly_for (Some (Serve task))) why told (left (asked_in task.way) (ending (asked_in task.way) task.many) trees) old new → StopsWithinDue relay_terms told (Serve task) script why old new
    stopped why front stops = record { found = left_is_due.found; bytes = left (asked_in task.way) (ending (asked_in task.way) task.many) trees; due = left_is_due.due; may = left_is_due.may; stops = stops }

    -- what writing the trees answered
    pub trees_served : (Want : K → K → Type 0) (result : Result (Unit {0}) RelayError) → WritesTrees result Want told (asked_in task.way) (ending (asked_in task.way) task.many) trees old new
        → (Want old new → IsWantIf (is_partly_for (Some (Serve task))) told old new) → ServesBytes relay_terms told (Serve task) script (ended_by task.many result) old new
    trees_served Want (Ok done) w wants = record {
      bytes = w.text;
      due = a_text (verdict_of script task calls trees is spell (Ok w.text) w.is) (means w.text w.is);
      writes = record { appends = w.appends; steady = w.steady };
    }
    trees_served Want (Err why) w wants = by_cause why w.cause
      where
        by_cause : (e : RelayError) → IsCauseAmong e Want told (asked_in task.way) (ending (asked_in task.way) task.many) trees old new → ServesBytes relay_terms told (Serve task) script (Err (failure_of_relay task.many e)) old new
        by_cause (answer.BadLine n) c = absurd c
        by_cause (answer.BadCall n) c = absurd c
        by_cause answer.Unfinished c = absurd c
        by_cause answer.InvalidKey c = record {
          all = record { bytes = left (asked_in task.way) (ending (asked_in task.way) task.many) trees; due = up_to_key (verdict_of script task calls trees is spell (Err InvalidKey) c.is); writes = record { appends = c.appends; steady = c.steady } };
          known = refl;
          untouched = λ never. absurd (cc never);
        }
        by_cause answer.InvalidNumber c = record {
          all = record { bytes = left (asked_in task.way) (ending (asked_in task.way) task.many) trees; due = up_to_number (verdict_of script task calls trees is spell (Err InvalidNumber) c.is); writes = record { appends = c.appends; steady = c.steady } };
          known = refl;
          untouched = λ never. absurd (cc never);
        }
        by_cause answer.Write c = stopped sink.Failed w.begins (stopped_by_fault told (left (asked_in task.way) (ending (asked_in task.way) task.many) trees) old new (is_partly_for (Some (Serve task))) c.fault w.begins w.counts)
        by_cause answer.NoMemory c = stopped sink.NoMemory w.begins (stopped_by_want told (left (asked_in task.way) (ending (asked_in task.way) task.many) trees) old new (is_partly_for (Some (Serve task))) (wants c) w.begins w.counts)

-- ---- one value, and many

pub value_served : {K : Type 0} (told : K → Told) (bytes : List ℕ) (way : Way) (calls : List Call) (tree : Tree) (old new : K) (result : Result (Unit {0}) RelayError) → lines bytes ≡ Good calls → Spells calls tree → IsPrintable tree
    → WritesTreeBy way result told tree old new → ServesBytes relay_terms told (Serve (one_in way)) bytes (ended_by false result) old new
value_served told bytes way calls tree old new result is s p w =
    trees_served bytes (one_in way) calls (tree ∷ []) is (tree, refl, s) (p, tt) told old new (IsWantOfTree (is_captured way) told) result (as_list told way tree old new result w) (want_of_one (is_captured way) told old new)

pub values_served : {K : Type 0} (told : K → Told) (bytes : List ℕ) (way : Way) (calls : List Call) (ends : List ℕ) (trees : List Tree) (old new : K) (result : Result (Unit {0}) RelayError) → lines bytes ≡ Good calls
    → AreTrees calls ends trees → WritesListIn way result told trees old new → ServesBytes relay_terms told (Serve (all_in way)) bytes (ended_by true result) old new
values_served told bytes way calls ends trees old new result is are w =
    trees_served bytes (all_in way) calls trees is are.spell are.printable told old new (IsWantAmong (is_captured way) told) result w (want_among_many (is_captured way) told old new)
