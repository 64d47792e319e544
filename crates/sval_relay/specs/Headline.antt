-- The headline: what status 0 says where one value is written as JSON.
use Rattle.std.specs.Prelude.{◌≡◌, ◌⊎◌, ℕ, List, [], ◌∷◌, Some, codes}
use Rattle.sval_io.specs.Sources.{Supply}
use Rattle.sval_io.specs.Sinks.{Told, Appends, HoldsNothing}
use Rattle.sval_json.specs.declared.style.Variants.TheVariants.{Inside}
use Rattle.sval_json.specs.Json.{Json, compact}
use Rattle.sval_program.specs.declared.status.TheConstants.{DONE}
use Rattle.sval_relay.specs.Laws.{ScriptSpellsJson}

-- the words ask for the JSON of one value: as its calls come, or after it was captured
abbrev pub AsksForJson : List (List ℕ) → Type 0
AsksForJson words = (words ≡ codes "direct" ∷ []) ⊎ (words ≡ codes "buffered" ∷ [])

-- the script's calls spell one tree, exactly the text of its JSON was written, and the sink holds back nothing of it
pub record WritesJsonOfTree (script : List ℕ) (old new : Told) : Type 0 where
  pub json : Json
  pub spells : ScriptSpellsJson script Inside json
  pub writes : Appends old (compact json) new
  pub flushed : HoldsNothing new

-- status 0 comes only where that is so of the script that the source had
abbrev pub IsDoneOnlyWithJson : List (List ℕ) → Supply → Told → Told → ℕ → Type 0
IsDoneOnlyWithJson words input old new status =
    status ≡ DONE → AsksForJson words → (script : List ℕ) → input.left ≡ Some script → WritesJsonOfTree script old new
