-- What streaming a value to JSON in memory answers: the bytes, or why there are none.
use Rattle.std.specs.Prelude.{◌≡◌, ◌⊎◌, ℕ, false, List, None, Some, Result, Ok, Err, IfOk, OnOk, IsUtf8}
use Rattle.sval_label.specs.Calls.{Call}
use Rattle.sval_core.specs.Law.{Emission}
use Rattle.sval_core.specs.Spells.{Spells}
use Rattle.sval_core.specs.Trees.{Tree}
use Rattle.sval_json.specs.declared.style.Variants.{Variants}
use Rattle.sval_json.specs.Json.{Json, compact}
use Rattle.sval_json.specs.Shape.{json_in}
use Rattle.sval_json.specs.Number.{Refusal}
use Rattle.sval_json.specs.declared.error.ErrorKind.{ErrorKind}
use Rattle.sval_json.specs.declared.error.ErrorKind.TheVariants as kind
use Rattle.sval_json.specs.ErrorKinds.{refusal_kind}
use Rattle.sval_json.specs.Steps.{written_in}
use Rattle.sval_json.specs.Grammar.{JsonValue}
use Rattle.sval_json.specs.Promises.{KeepsPromises}
use Rattle.sval_json.specs.Laws.{IsTheValueOf}
use Rattle.sval_json.specs.Written.{WritesSome, RefusesItself, RefusesSpelledTree}

-- no step refuses a call, and the bytes are exactly what the steps write in this style
pub record IsTextIn (style : Variants) (calls : List Call) (bytes : List ℕ) : Type 0 where
  pub refusal : (written_in style calls).refusal ≡ None
  pub text : bytes ≡ (written_in style calls).written

-- the tree has a JSON shape in this style, and the bytes are exactly the text of that
pub record IsTreeTextIn (style : Variants) (tree : Tree) (bytes : List ℕ) : Type 0 where
  pub json : Json
  pub shape : json_in style tree ≡ Ok json
  pub text : bytes ≡ compact json

-- if the calls spell a tree, the bytes are its text
abbrev pub IsSpelledTextIn : Variants → List Call → List ℕ → Type 0
IsSpelledTextIn style calls bytes = (tree : Tree) → Spells calls tree → IsTreeTextIn style tree bytes

-- the bytes are exactly the text of the tree's JSON, which denotes the one value that this JSON means, and no other
pub record IsTreeValueIn (style : Variants) (tree : Tree) (bytes : List ℕ) : Type 0 where
  pub json : Json
  pub shape : json_in style tree ≡ Ok json
  pub value : JsonValue
  pub is : IsTheValueOf json value
  pub text : bytes ≡ compact json

-- if the calls spell a tree that keeps its promises, the bytes denote what is meant
abbrev pub IsSpelledValueIn : Variants → List Call → List ℕ → Type 0
IsSpelledValueIn style calls bytes = (tree : Tree) → Spells calls tree → KeepsPromises tree → IsTreeValueIn style tree bytes

-- an answer by what is seen of its bytes
abbrev pub by_bytes : {T : Type 0} → Result T ErrorKind → (T → List ℕ) → Result (List ℕ) ErrorKind
by_bytes (Ok json) bytes = Ok (bytes json)
by_bytes (Err found) bytes = Err found

-- this error comes, unless memory is wanting
abbrev pub ComesInMemory : ErrorKind → Result (List ℕ) ErrorKind → Type 0
ComesInMemory found result = (result ≡ Err found) ⊎ (result ≡ Err kind.NoMemory)

-- On Ok the bytes are what the steps write, which is the text of the tree that the calls spell, and denotes what is meant.
-- Each error comes only where it is so, and comes there unless memory is wanting, which it never is for no bytes. No sink fails.
pub record GivesJson (style : Variants) (emission : Emission) (result : Result (List ℕ) ErrorKind) : Type 0 where
  pub written : IfOk result (IsTextIn style emission.calls)
  pub tree : IfOk result (IsSpelledTextIn style emission.calls)
  pub denotes : IfOk result (IsSpelledValueIn style emission.calls)
  pub utf8 : IfOk result IsUtf8
  pub willing : OnOk result (emission.refuses ≡ false)
  pub generic_comes : RefusesItself style emission → ComesInMemory kind.Generic result
  pub generic : result ≡ Err kind.Generic → RefusesItself style emission
  pub refused_comes : (why : Refusal) → (written_in style emission.calls).refusal ≡ Some why → ComesInMemory (refusal_kind why) result
  pub refused : (why : Refusal) → result ≡ Err (refusal_kind why) → (written_in style emission.calls).refusal ≡ Some why
  pub tree_refused : (why : Refusal) → result ≡ Err (refusal_kind why) → RefusesSpelledTree style why emission.calls
  pub io : result ≡ Err kind.IO → ⊥
  pub no_memory : result ≡ Err kind.NoMemory → WritesSome style emission.calls
