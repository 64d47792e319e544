-- What writing a value as JSON answers where its calls are checked first, and what it leaves of a sink.
use Rattle.std.specs.Prelude.{◌≡◌, ◌⊎◌, Result, Ok, Err, OnOk, IfErr, IsUtf8}
use Rattle.sval_core.specs.Law.{Emission, Rose}
use Rattle.sval_core.specs.Spells.{Spells}
use Rattle.sval_core.specs.Trees.{Tree}
use Rattle.sval_io.specs.Sinks.{Told, IsSteady, NoCountFell}
use Rattle.sval_check.specs.Checks.{IsOneValue, IsFirstBadCall, OnlyRefuses, IsUnfinished, NeedsMemory}
use Rattle.sval_check.specs.declared.error.CheckError.{CheckError}
use Rattle.sval_check.specs.declared.error.CheckError.TheVariants as check
use Rattle.sval_json.specs.declared.style.Variants.{Variants}
use Rattle.sval_json.specs.declared.error.ErrorKind.{ErrorKind}
use Rattle.sval_json.specs.declared.error.ErrorKind.TheVariants as kind
use Rattle.sval_json.specs.Json.{Json}
use Rattle.sval_json.specs.Number.{Refusal, InvalidKey, InvalidNumber}
use Rattle.sval_json.specs.Shape.{json_in}
use Rattle.sval_json.specs.Steps.{written_in}
use Rattle.sval_json.specs.Written.{IsWrittenIn, IsRefusedIn, IsCutIn, IsTooLongFor, WritesSpelledTree, WritesSpelledValue, RefusesSpelledTree, BeginsSpelledTree}
use Rattle.sval_whole.specs.declared.error.WriteError.{WriteError}
use Rattle.sval_whole.specs.declared.error.WriteError.TheVariants as error

-- ---- the errors

-- what is answered where the calls didn't pass the check
abbrev pub of_check_error : CheckError → WriteError
of_check_error (check.BadCall at) = error.BadCall at
of_check_error check.Unfinished = error.Unfinished
of_check_error check.Refused = error.Refused
of_check_error check.NoMemory = error.NoMemory

-- what is answered where the writer was stopped for this
abbrev pub of_json_error : ErrorKind → WriteError
of_json_error kind.Generic = error.Refused
of_json_error kind.IO = error.Write
of_json_error kind.InvalidKey = error.InvalidKey
of_json_error kind.InvalidNumber = error.InvalidNumber
of_json_error kind.NoMemory = error.NoMemory

-- ---- the answer that is due

-- the calls are one whole value, which has a JSON in this style
pub record HasJsonIn (style : Variants) (e : Emission) : Type 0 where
  pub value : IsOneValue e
  pub shape : (tree : Tree) → Spells e.calls tree → (json : Json) × (json_in style tree ≡ Ok json)

-- the calls are one whole value, which has no JSON in this style, for this cause
pub record LacksJsonIn (style : Variants) (why : Refusal) (e : Emission) : Type 0 where
  pub value : IsOneValue e
  pub shape : RefusesSpelledTree style why e.calls

-- what writing answers
abbrev pub WriteAnswer : Type 0
WriteAnswer = Result (Unit {0}) WriteError

-- the answer that is due, where the sink doesn't decline and memory isn't wanting
abbrev pub IsWriteDue : Variants → Emission → WriteAnswer → Type 0
IsWriteDue style e (Ok done) = HasJsonIn style e
IsWriteDue style e (Err (error.BadCall at)) = IsFirstBadCall e.calls at
IsWriteDue style e (Err error.Unfinished) = IsUnfinished e
IsWriteDue style e (Err error.Refused) = OnlyRefuses e
IsWriteDue style e (Err error.InvalidKey) = LacksJsonIn style InvalidKey e
IsWriteDue style e (Err error.InvalidNumber) = LacksJsonIn style InvalidNumber e
IsWriteDue style e (Err error.Write) = ⊥
IsWriteDue style e (Err error.NoMemory) = ⊥

-- this answer comes, unless the sink declined or memory was wanting
abbrev pub ComesOrDeclined : WriteAnswer → WriteAnswer → Type 0
ComesOrDeclined due result = (result ≡ due) ⊎ ((result ≡ Err error.Write) ⊎ (result ≡ Err error.NoMemory))

-- ---- what is left of a sink

-- the calls are one whole value, and exactly the text of the JSON of the tree that they spell was taken, which denotes what is meant
pub record WritesOneValue (style : Variants) (e : Emission) (old new : Told) : Type 0 where
  pub value : IsOneValue e
  pub tree : WritesSpelledTree style e.calls old new
  pub denotes : WritesSpelledValue style e.calls old new
  pub written : IsWrittenIn style e.calls old new
  pub utf8 : IsUtf8 (written_in style e.calls).written
  pub steady : IsSteady old new

-- the calls are one whole value, which has no JSON for this cause, and exactly what is written up to there was taken
pub record RefusesOneValue (style : Variants) (why : Refusal) (e : Emission) (old new : Told) : Type 0 where
  pub lacks : LacksJsonIn style why e
  pub left : IsRefusedIn style why e.calls old new

-- the calls are one whole value, the sink failed, and a first part was taken, but not all: all had no place in a room that is told
pub record FailsWithin (style : Variants) (e : Emission) (old new : Told) : Type 0 where
  pub value : IsOneValue e
  pub fault : Rose old.faults new.faults
  pub full : IsTooLongFor style e.calls old
  pub cut : IsCutIn style e.calls old new

-- the calls are one whole value, the sink lacked memory, and a first part was taken, but not all
pub record WantsWithin (style : Variants) (e : Emission) (old new : Told) : Type 0 where
  pub value : IsOneValue e
  pub want : Rose old.wants new.wants
  pub cut : IsCutIn style e.calls old new

-- why writing stopped, and what it leaves: where the calls aren't one whole value, the sink as it was
abbrev pub IsWriteCause : {K : Type 0} → Variants → Emission → (K → Told) → WriteError → K → K → Type 0
IsWriteCause style e told (error.BadCall at) old new = IsFirstBadCall e.calls at × (new ≡ old)
IsWriteCause style e told error.Unfinished old new = IsUnfinished e × (new ≡ old)
IsWriteCause style e told error.Refused old new = OnlyRefuses e × (new ≡ old)
IsWriteCause style e told error.InvalidKey old new = RefusesOneValue style InvalidKey e (told old) (told new)
IsWriteCause style e told error.InvalidNumber old new = RefusesOneValue style InvalidNumber e (told old) (told new)
IsWriteCause style e told error.Write old new = FailsWithin style e (told old) (told new)
IsWriteCause style e told error.NoMemory old new = (NeedsMemory e.calls × (new ≡ old)) ⊎ WantsWithin style e (told old) (told new)

-- ---- what writing answers

-- On Ok the sink took the JSON of the one value that the calls are. Each error comes only where it is so, and the answer that is due
-- comes unless the sink declined or memory was wanting. Whatever comes, the sink took a first part of the text, if there is one.
pub record WritesJson {K : Type 0} (style : Variants) (e : Emission) (told : K → Told) (result : WriteAnswer) (old new : K) : Type 0 where
  pub done : OnOk result (WritesOneValue style e (told old) (told new))
  pub cause : IfErr result (λ why. IsWriteCause style e told why old new)
  pub comes : (due : WriteAnswer) → IsWriteDue style e due → ComesOrDeclined due result
  pub prefix : BeginsSpelledTree style e.calls (told old) (told new)
  pub counts : NoCountFell (told old) (told new)
