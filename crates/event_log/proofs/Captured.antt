-- What is written of a captured event is what would have been written of the event itself.
use Rattle.std.specs.Prelude.{◌≡◌, ℕ, List, [], ◌∷◌, ◌++◌, codes, None, Some, Result, Ok, Err, refl}
use Rattle.std.proofs.Common.{ap, sym, subst, ◌∙◌}
use Rattle.std.proofs.lemmas.List.Elements.{All-push, All-drop, All-tail}
use Rattle.circular_buffer.specs.Buffer.{keep_last}
use Rattle.sval_label.specs.Calls.{Call}
use Rattle.sval_core.specs.Law.{Emission}
use Rattle.sval_core.specs.Spells.{Spells}
use Rattle.sval_core.specs.Trees.{Tree}
use Rattle.sval_json.specs.declared.style.Variants.TheVariants.{Inside}
use Rattle.sval_json.specs.Json.{Json}
use Rattle.sval_json.specs.Laws.{IsWrittenAs}
use Rattle.sval_json.specs.Number.{Refusal}
use Rattle.sval_json.specs.Shape.{json_of}
use Rattle.sval_json.specs.Steps.{written}
use Rattle.sval_json.proofs.WritingPlain.{spelling_written}
use Rattle.sval_buffer.specs.FlatForest.{FlatForest, forest_in}
use Rattle.sval_buffer.specs.CapturedValues.{IsTakenOwned, KeepsTree}
use Rattle.event_log.specs.declared.checking.RecordError.{RecordError}
use Rattle.event_log.specs.declared.checking.RecordError.TheVariants as error
use Rattle.event_log.specs.Events.{HasJson, IsRecordCause}
use Rattle.event_log.specs.Logs.{Log, event_calls, event_line, IsLine, HasLine, AreLines, KeepsEvent}

-- what the writer makes of calls that spell a tree
pub written_as : (calls : List Call) (tree : Tree) (shape : Result Json Refusal) → Spells calls tree → json_of tree ≡ shape → IsWrittenAs shape (written calls)
written_as calls tree shape spells is = subst (λ shape. IsWrittenAs shape (written calls)) is (spelling_written Inside calls tree spells)

-- no step refuses a call of an event
pub never_refused : (event : FlatForest) → HasLine event → (written (event_calls event)).refusal ≡ None
never_refused event line = (written_as (event_calls event) line.tree (Ok line.json) line.spells line.shape).1

-- the line is that of any calls that spell the same tree
same_line : (calls : List Call) (event : FlatForest) (tree : Tree) (json : Json) → Spells calls tree → Spells (event_calls event) tree → json_of tree ≡ Ok json → IsLine calls (event_line event)
unfolding event_line
same_line calls event tree json spells again shape =
    record { tree = tree; spells = spells; json = json; shape = shape; text = ap (λ text. text ++ codes "\n") (written_as (event_calls event) tree (Ok json) again shape).0 }

-- ---- an event more

module _ (e : Emission) (event : FlatForest) (has : HasJson e) (keeps : KeepsTree e (forest_in event)) where
  pub has_line : HasLine event
  has_line = let again = (keeps has.tree has.spells).spells in same_line (event_calls event) event has.tree has.json again again has.shape

  pub kept : {old new : Log} → IsTakenOwned e (forest_in event) → new.events ≡ keep_last old.capacity (old.events ++ event ∷ []) → new.capacity ≡ old.capacity → KeepsEvent e old new
  kept captured events capacity = record {
    event = event;
    captured = captured;
    line = same_line e.calls event has.tree has.json has.spells (keeps has.tree has.spells).spells has.shape;
    events = events;
    capacity = capacity;
  }

pub lines_pushed : (n : ℕ) (events : List FlatForest) (event : FlatForest) → AreLines events → HasLine event → AreLines (keep_last n (events ++ event ∷ []))
lines_pushed n events event lines line = All-drop HasLine _ (events ++ event ∷ []) (All-push HasLine events event lines line)

lines_behind : (xs ys : List FlatForest) → AreLines (xs ++ ys) → AreLines ys
lines_behind [] ys lines = lines
lines_behind (x ∷ xs) ys lines = lines_behind xs ys (All-tail HasLine x (xs ++ ys) lines)

-- the events of the second slice
pub second_lines : (xs ys all : List FlatForest) → xs ++ ys ≡ all → AreLines all → AreLines ys
second_lines xs ys all is lines = lines_behind xs ys (subst AreLines (sym is) lines)

-- ---- errors

-- an event that has a JSON is recorded, unless memory is wanting
pub only_no_memory : (e : Emission) (why : RecordError) → HasJson e → IsRecordCause why e → why ≡ error.NoMemory
only_no_memory e error.NotOneValue has cause = absurd (cause (record { willing = has.willing; spells = (has.tree, has.spells) }))
only_no_memory e error.NoJson has cause =
    let apart : None ≡ Some cause.why = sym (written_as e.calls has.tree (Ok has.json) has.spells has.shape).1 ∙ written_as e.calls cause.tree (Err cause.why) cause.spells cause.shape in cc apart
only_no_memory e error.NoMemory has cause = refl
