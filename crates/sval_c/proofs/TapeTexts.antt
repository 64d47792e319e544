-- What is due of a tape that was read, and why it has no JSON.
use Rattle.std.specs.Prelude.{◌≡◌, ℕ, List, [], Option, Some, None, Result, Ok, Err, IfOk, IfErr, refl}
use Rattle.std.proofs.Common.{sym, subst}
use Rattle.sval_label.specs.Calls.{Call}
use Rattle.sval_core.specs.Values.{makes}
use Rattle.sval_io.specs.Taken.{Taken, taken_told}
use Rattle.sval_check.specs.Checks.{IsOneValue, IsFirstBadCall, OnlyRefuses, IsUnfinished}
use Rattle.sval_check.specs.declared.error.CheckError.{CheckError}
use Rattle.sval_check.specs.declared.error.CheckError.TheVariants as check
use Rattle.sval_json.specs.declared.style.Variants.TheVariants.{Inside}
use Rattle.sval_json.specs.declared.error.ErrorKind.{ErrorKind}
use Rattle.sval_json.specs.declared.error.ErrorKind.TheVariants as kind
use Rattle.sval_json.specs.Given.{GivesJson}
use Rattle.sval_json.specs.Json.{compact}
use Rattle.sval_json.specs.Number.{Refusal, InvalidKey, InvalidNumber}
use Rattle.sval_pretty.specs.Layout.{pretty}
use Rattle.sval_json.proofs.Meaning.{text_means}
use Rattle.sval_tape.specs.JsonAtFront.{IsJsonOf}
use Rattle.sval_tape.specs.Taped.{IsTape, IsBadAt}
use Rattle.sval_tape.specs.declared.tape.TapeError.{TapeError}
use Rattle.sval_tape.specs.declared.tape.TapeError.TheVariants as reading
use Rattle.sval_c.specs.declared.fault.Fault.{Fault}
use Rattle.sval_c.specs.declared.fault.Fault.TheVariants as fault
use Rattle.sval_c.specs.declared.lack.Lack.{Lack}
use Rattle.sval_c.specs.declared.lack.Lack.TheVariants as lack
use Rattle.sval_c.specs.Lacks.{lack_of_tape, lack_of_check, lack_of_text, IsLacking, GivesOrLacks}
use Rattle.sval_c.specs.Faults.{fault_of_refusal}
use Rattle.sval_c.specs.OfTapes.{SpellsTree, SpellsNone, bad_tape, bad_call, unfinished, CompactOfTape, has_json, no_json, PrettyOfTape, WritesTape}
use Rattle.sval_c.proofs.Taken.{taken_whole}

-- ---- why it wasn't read

module _ (Due : Option Fault → List ℕ → Type 0) (tape : List ℕ) (none : (why : Fault) → SpellsNone tape why → Due (Some why) []) where
  pub unread : (why : TapeError) → ((at : ℕ) → why ≡ reading.Bad at → IsBadAt tape at) → IsLacking Due (lack_of_tape why)
  unread (reading.Bad at) bad = ([], none (fault.BadTape at) (bad_tape at (bad at refl)))

  -- why its calls are not one whole value
  pub unchecked : (calls : List Call) → IsTape tape calls → (why : CheckError) (found : Lack) → lack_of_check why ≡ Some found
      → ((at : ℕ) → why ≡ check.BadCall at → IsFirstBadCall calls at) → (why ≡ check.Unfinished → IsUnfinished (makes calls)) → IsLacking Due found
  unchecked calls is (check.BadCall at) found e bad ends =
      let same : lack.Fault (fault.BadCall at) ≡ found = cc e in subst (IsLacking Due) same ([], none (fault.BadCall at) (bad_call at calls is (bad at refl)))
  unchecked calls is check.Unfinished found e bad ends =
      let same : lack.Fault fault.Unfinished ≡ found = cc e in subst (IsLacking Due) same ([], none fault.Unfinished (unfinished calls is (ends refl)))
  unchecked calls is check.NoMemory found e bad ends = let same : lack.NoMemory ≡ found = cc e in subst (IsLacking Due) same tt
  unchecked calls is check.Refused found e bad ends = let never : None ≡ Some found = e in absurd (cc never)

-- a tape doesn't refuse
pub never_refuses : (calls : List Call) → OnlyRefuses (makes calls) → ⊥
never_refuses calls only = let never = only.refuses in cc never

-- ---- what is due of it

module _ (tape : List ℕ) (calls : List Call) (is : IsTape tape calls) (value : IsOneValue (makes calls)) where
  pub spelled : SpellsTree tape value.spells.0
  spelled = record { calls = calls; is = is; spells = value.spells.1 }

  pub written : (bytes : List ℕ) → GivesJson Inside (makes calls) (Ok bytes) → CompactOfTape tape None bytes
  written bytes given =
      has_json value.spells.0 spelled (record { is_text = given.tree value.spells.0 value.spells.1; denotes = given.denotes value.spells.0 value.spells.1 })

  refused : (why : Refusal) (found : Lack) → lack.Fault (fault_of_refusal why) ≡ found → CompactOfTape tape (Some (fault_of_refusal why)) [] → IsLacking (CompactOfTape tape) found
  refused why found same due = subst (IsLacking (CompactOfTape tape)) same ([], due)

  pub unwritten : (why : ErrorKind) (found : Lack) → lack_of_text why ≡ Some found → GivesJson Inside (makes calls) (Err why) → IsLacking (CompactOfTape tape) found
  unwritten kind.InvalidKey found e given =
      refused InvalidKey found (let same : lack.Fault fault.InvalidKey ≡ found = cc e in same) (no_json value.spells.0 InvalidKey spelled (given.tree_refused InvalidKey refl value.spells.0 value.spells.1))
  unwritten kind.InvalidNumber found e given =
      refused InvalidNumber found (let same : lack.Fault fault.InvalidNumber ≡ found = cc e in same) (no_json value.spells.0 InvalidNumber spelled (given.tree_refused InvalidNumber refl value.spells.0 value.spells.1))
  unwritten kind.NoMemory found e given = let same : lack.NoMemory ≡ found = cc e in subst (IsLacking (CompactOfTape tape)) same tt
  unwritten kind.IO found e given = let never : None ≡ Some found = e in absurd (cc never)
  unwritten kind.Generic found e given = let never : None ≡ Some found = e in absurd (cc never)

-- errors that don't come
pub fault_never : (calls : List Call) → GivesJson Inside (makes calls) (Err kind.IO) → ⊥
fault_never calls given = given.io refl

pub refusal_never : (calls : List Call) → GivesJson Inside (makes calls) (Err kind.Generic) → ⊥
refusal_never calls given = let never = (given.generic refl).refuses in cc never

-- ---- in one pass

pub at_once : (tape : List ℕ) (old new : Taken) → old.bytes ≡ [] → WritesTape tape (taken_told old) (taken_told new) → CompactOfTape tape None new.bytes
at_once tape old new empty w =
    let tree = w.value.spells.0 in
    let spells = w.value.spells.1 in
    let text = w.streams.tree tree spells in
    has_json tree (record { calls = w.calls; is = w.is; spells = spells }) (record {
      is_text = record { json = text.json; shape = text.shape; text = taken_whole old new (compact text.json) empty text.appends };
      denotes = λ keeps.
          let t = w.streams.denotes tree spells keeps in
          record { json = t.json; shape = t.shape; value = t.value; is = t.is; text = taken_whole old new (compact t.json) empty t.appends };
    })

-- ---- as it is read

pub json_due : (tape text : List ℕ) → IsJsonOf tape text → CompactOfTape tape None text
json_due tape text j =
    has_json j.tree (record { calls = j.calls; is = j.is; spells = j.spells }) (record {
      is_text = record { json = j.json; shape = j.shape_is; text = j.text_is };
      denotes = λ keeps.
          let meant = text_means Inside j.tree j.json j.real keeps j.shape_is in
          record { json = j.json; shape = j.shape_is; value = meant.0; is = meant.1; text = j.text_is };
    })

-- ---- laid out

pub laid : (tape text : List ℕ) → CompactOfTape tape None text → PrettyOfTape tape None (pretty text)
laid tape text due = (text, due, refl)

pub unlaid : (tape : List ℕ) (why : Lack) → IsLacking (CompactOfTape tape) why → IsLacking (PrettyOfTape tape) why
unlaid tape (lack.Fault why) lacking = (lacking.0, lacking.1)
unlaid tape lack.NoMemory lacking = tt

-- what laying out answers, where only memory may be wanting
pub lays_out : {Bytes : Type 0} (tape text : List ℕ) (made : Result Bytes Lack) (items : Bytes → List ℕ)
    → CompactOfTape tape None text → IfOk made (λ bytes. items bytes ≡ pretty text) → IfErr made (λ why. why ≡ lack.NoMemory) → GivesOrLacks (PrettyOfTape tape) made items
lays_out tape text (Ok bytes) items due is want = subst (PrettyOfTape tape None) (sym is) (laid tape text due)
lays_out tape text (Err why) items due is want = subst (IsLacking (PrettyOfTape tape)) (sym want) tt
