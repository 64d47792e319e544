-- What streaming a value to JSON leaves of a sink.
use Rattle.std.specs.Prelude.{◌≡◌, ◌<◌, true, false, length, List, None, Some, Result, Ok, Err, OnOk, OnErr, IsUtf8}
use Rattle.sval_label.specs.Calls.{Call}
use Rattle.sval_core.specs.Law.{Emission, Rose}
use Rattle.sval_core.specs.Spells.{Spells}
use Rattle.sval_core.specs.Trees.{Tree}
use Rattle.sval_io.specs.Sinks.{Told, IsSteady, IsQuiet, NoCountFell, Appends, AppendsFront, AppendsPart, LacksRoom}
use Rattle.sval_json.specs.declared.style.Variants.{Variants}
use Rattle.sval_json.specs.Json.{Json, compact}
use Rattle.sval_json.specs.Shape.{json_in}
use Rattle.sval_json.specs.Number.{Refusal, InvalidKey, InvalidNumber}
use Rattle.sval_json.specs.declared.error.ErrorKind.{ErrorKind}
use Rattle.sval_json.specs.declared.error.ErrorKind.TheVariants as kind
use Rattle.sval_json.specs.ErrorKinds.{refusal_kind}
use Rattle.sval_json.specs.Steps.{written_in}
use Rattle.sval_json.specs.Grammar.{JsonValue}
use Rattle.sval_json.specs.Promises.{KeepsPromises}
use Rattle.sval_json.specs.Passed.{ArePassed}
use Rattle.sval_json.specs.Laws.{IsTheValueOf}

-- no step refuses a call, and exactly what the steps write in this style was taken
pub record IsWrittenIn (style : Variants) (calls : List Call) (old new : Told) : Type 0 where
  pub refusal : (written_in style calls).refusal ≡ None
  pub appends : Appends old (written_in style calls).written new

-- a first part of what the steps write was taken
abbrev pub IsBegunIn : Variants → List Call → Told → Told → Type 0
IsBegunIn style calls old new = AppendsFront old (written_in style calls).written new

-- a first part of what the steps write, but not all of it, was taken
abbrev pub IsCutIn : Variants → List Call → Told → Told → Type 0
IsCutIn style calls old new = AppendsPart old (written_in style calls).written new

-- the steps write something
abbrev pub WritesSome : Variants → List Call → Type 0
WritesSome style calls = 0 < length (written_in style calls).written

-- a step refuses a call for this cause, and exactly what the steps write up to there was taken
pub record IsRefusedIn (style : Variants) (why : Refusal) (calls : List Call) (old new : Told) : Type 0 where
  pub refusal : (written_in style calls).refusal ≡ Some why
  pub appends : Appends old (written_in style calls).written new
  pub steady : IsSteady old new

-- what the steps write has no place in the room that is told
abbrev pub IsTooLongFor : Variants → List Call → Told → Type 0
IsTooLongFor style calls old = LacksRoom old (written_in style calls).written

-- the tree has a JSON shape in this style, and exactly the text of that was taken
pub record WritesTreeIn (style : Variants) (tree : Tree) (old new : Told) : Type 0 where
  pub json : Json
  pub shape : json_in style tree ≡ Ok json
  pub appends : Appends old (compact json) new

-- if the calls spell a tree, its text was taken
abbrev pub WritesSpelledTree : Variants → List Call → Told → Told → Type 0
WritesSpelledTree style calls old new = (tree : Tree) → Spells calls tree → WritesTreeIn style tree old new

-- exactly the text of the tree's JSON was taken, which denotes the one value that this JSON means, and no other
pub record WritesValueIn (style : Variants) (tree : Tree) (old new : Told) : Type 0 where
  pub json : Json
  pub shape : json_in style tree ≡ Ok json
  pub value : JsonValue
  pub is : IsTheValueOf json value
  pub appends : Appends old (compact json) new

-- if the calls spell a tree that keeps its promises, the text that was taken denotes what is meant
abbrev pub WritesSpelledValue : Variants → List Call → Told → Told → Type 0
WritesSpelledValue style calls old new =
    (tree : Tree) → Spells calls tree → KeepsPromises tree → WritesValueIn style tree old new

-- if the calls spell a tree, it has no JSON, for this cause
abbrev pub RefusesSpelledTree : Variants → Refusal → List Call → Type 0
RefusesSpelledTree style why calls = (tree : Tree) → Spells calls tree → json_in style tree ≡ Err why

-- if the calls spell a tree, a first part of its text was taken
abbrev pub BeginsSpelledTree : Variants → List Call → Told → Told → Type 0
BeginsSpelledTree style calls old new =
    (tree : Tree) (json : Json) → Spells calls tree → json_in style tree ≡ Ok json → AppendsFront old (compact json) new

-- the value refuses, and no step refuses a call of it
pub record RefusesItself (style : Variants) (emission : Emission) : Type 0 where
  pub refuses : emission.refuses ≡ true
  pub refusal : (written_in style emission.calls).refusal ≡ None

-- the value refused after all that its calls write
pub record EndsRefused (style : Variants) (emission : Emission) (old new : Told) : Type 0 where
  pub refuses : emission.refuses ≡ true
  pub written : IsWrittenIn style emission.calls old new
  pub steady : IsSteady old new

-- ---- what streaming answers

-- On Ok the sink took what the steps write, which is the text of the tree that the calls spell, and denotes what is meant. Each error
-- comes only where it is so, and where no count of the sink moved, the answer that is due comes. Whatever comes, a first part of what
-- the steps write was taken, and not all of it where the sink declined, and no count falls.
pub record StreamsJson (style : Variants) (emission : Emission) (result : Result (Unit {0}) ErrorKind) (old new : Told) : Type 0 where
  pub written : OnOk result (IsWrittenIn style emission.calls old new)
  pub tree : OnOk result (WritesSpelledTree style emission.calls old new)
  pub denotes : OnOk result (WritesSpelledValue style emission.calls old new)
  pub passed : OnOk result (ArePassed emission.calls)
  pub utf8 : OnOk result (IsUtf8 (written_in style emission.calls).written)
  pub willing : OnOk result (emission.refuses ≡ false)
  pub steady : OnOk result (IsSteady old new)
  pub generic_comes : RefusesItself style emission → IsQuiet old new → result ≡ Err kind.Generic
  pub generic : result ≡ Err kind.Generic → EndsRefused style emission old new
  pub refused_comes : (why : Refusal) → (written_in style emission.calls).refusal ≡ Some why → IsQuiet old new → result ≡ Err (refusal_kind why)
  pub invalid_key : result ≡ Err kind.InvalidKey → IsRefusedIn style InvalidKey emission.calls old new
  pub invalid_number : result ≡ Err kind.InvalidNumber → IsRefusedIn style InvalidNumber emission.calls old new
  pub tree_refused : (why : Refusal) → result ≡ Err (refusal_kind why) → RefusesSpelledTree style why emission.calls
  pub io : result ≡ Err kind.IO → Rose old.faults new.faults
  pub io_room : result ≡ Err kind.IO → IsTooLongFor style emission.calls old
  pub io_short : result ≡ Err kind.IO → IsCutIn style emission.calls old new
  pub no_memory : result ≡ Err kind.NoMemory → Rose old.wants new.wants
  pub no_memory_short : result ≡ Err kind.NoMemory → IsCutIn style emission.calls old new
  pub counts : NoCountFell old new
  pub prefix : OnErr result (IsBegunIn style emission.calls old new)
  pub tree_prefix : OnErr result (BeginsSpelledTree style emission.calls old new)
