-- Which values may be events, and why another is refused.
use Rattle.std.specs.Prelude.{◌≡◌, ◌⊎◌, false, Ok, Err}
use Rattle.sval_core.specs.Law.{Emission}
use Rattle.sval_core.specs.Spells.{Spells}
use Rattle.sval_core.specs.Trees.{Tree}
use Rattle.sval_check.specs.Checks.{IsOneValue, NeedsMemory}
use Rattle.sval_check.specs.declared.error.CheckError.{CheckError}
use Rattle.sval_check.specs.declared.error.CheckError.TheVariants as check
use Rattle.sval_json.specs.Json.{Json}
use Rattle.sval_json.specs.Number.{Refusal}
use Rattle.sval_json.specs.Shape.{json_of}
use Rattle.event_log.specs.declared.checking.RecordError.{RecordError}
use Rattle.event_log.specs.declared.checking.RecordError.TheVariants as error

-- the value doesn't refuse, and its calls spell a tree that has a JSON
pub record HasJson (e : Emission) : Type 0 where
  pub willing : e.refuses ≡ false
  pub tree : Tree
  pub spells : Spells e.calls tree
  pub json : Json
  pub shape : json_of tree ≡ Ok json

-- the value doesn't refuse, and its calls spell a tree that has no JSON, for this cause
pub record HasNoJson (e : Emission) : Type 0 where
  pub willing : e.refuses ≡ false
  pub tree : Tree
  pub spells : Spells e.calls tree
  pub why : Refusal
  pub shape : json_of tree ≡ Err why

-- what is answered where checking the value's calls answered this
abbrev pub unfit : CheckError → RecordError
unfit check.NoMemory = error.NoMemory
unfit _ = error.NotOneValue

-- why an event isn't recorded; memory is wanting for checking its calls, or for keeping an event that has a JSON
abbrev pub IsRecordCause : RecordError → Emission → Type 0
IsRecordCause error.NotOneValue e = IsOneValue e → ⊥
IsRecordCause error.NoJson e = HasNoJson e
IsRecordCause error.NoMemory e = NeedsMemory e.calls ⊎ HasJson e
