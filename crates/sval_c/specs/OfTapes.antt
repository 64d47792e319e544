-- What is due of a tape of calls: the JSON or the CBOR of the one tree that they spell, or the fault for which there is none.
use Rattle.std.specs.Prelude.{◌≡◌, ℕ, zero, suc, List, [], Option, Some, None, Ok, Err}
use Rattle.sval_label.specs.Calls.{Call}
use Rattle.sval_core.specs.Law.{Law, Standing, Ran}
use Rattle.sval_core.specs.Spells.{Spells}
use Rattle.sval_core.specs.Trees.{Tree}
use Rattle.sval_core.specs.Values.{makes}
use Rattle.sval_io.specs.Sinks.{Told}
use Rattle.sval_check.specs.Checks.{IsFirstBadCall, IsUnfinished, IsOneValue}
use Rattle.sval_json.specs.declared.style.Variants.TheVariants.{Inside}
use Rattle.sval_json.specs.Given.{IsTreeTextIn, IsTreeValueIn}
use Rattle.sval_json.specs.Json.{Json}
use Rattle.sval_json.specs.Number.{Refusal}
use Rattle.sval_json.specs.Promises.{KeepsPromises}
use Rattle.sval_json.specs.Shape.{json_of}
use Rattle.sval_json.specs.Written.{StreamsJson}
use Rattle.sval_pretty.specs.Layout.{pretty}
use Rattle.sval_tape.specs.Taped.{IsTape, IsBadAt}
use Rattle.sval_cbor.specs.Cbor.{cbor}
use Rattle.sval_cbor.specs.Packs.{PackRefusal, pack_of}
use Rattle.sval_c.specs.declared.fault.Fault.{Fault}
use Rattle.sval_c.specs.declared.fault.Fault.TheVariants as fault
use Rattle.sval_c.specs.Faults.{fault_of_refusal, fault_of_pack}

-- ---- the tree

-- the bytes are the tape of calls that spell this tree
pub record SpellsTree (tape : List ℕ) (tree : Tree) : Type 0 where
  pub calls : List Call
  pub is : IsTape tape calls
  pub spells : Spells calls tree

-- why bytes spell no tree: they are no tape, or no value goes on with a call of theirs, or their calls are not one whole value
pub data SpellsNone (tape : List ℕ) : Fault → Type 0 where
  bad_tape : (at : ℕ) → IsBadAt tape at → SpellsNone tape (fault.BadTape at)
  bad_call : (number : ℕ) (calls : List Call) → IsTape tape calls → IsFirstBadCall calls number → SpellsNone tape (fault.BadCall number)
  unfinished : (calls : List Call) → IsTape tape calls → IsUnfinished (makes calls) → SpellsNone tape fault.Unfinished

-- ---- as JSON

-- the text of the tree's JSON, which denotes what is meant where the tree's raw texts and identifiers are what their tags promise
pub record IsTextAndValueOf (tree : Tree) (text : List ℕ) : Type 0 where
  pub is_text : IsTreeTextIn Inside tree text
  pub denotes : KeepsPromises tree → IsTreeValueIn Inside tree text

-- the JSON of the tree, without white space
pub data CompactOfTape (tape : List ℕ) : Option Fault → List ℕ → Type 0 where
  has_json : {text : List ℕ} (tree : Tree) → SpellsTree tape tree → IsTextAndValueOf tree text → CompactOfTape tape None text
  no_json : (tree : Tree) (why : Refusal) → SpellsTree tape tree → json_of tree ≡ Err why → CompactOfTape tape (Some (fault_of_refusal why)) []
  no_tree : (why : Fault) → SpellsNone tape why → CompactOfTape tape (Some why) []

-- the same, with a line for each element and member
abbrev pub PrettyOfTape : List ℕ → Option Fault → List ℕ → Type 0
PrettyOfTape tape None bytes = (text : List ℕ) × CompactOfTape tape None text × (bytes ≡ pretty text)
PrettyOfTape tape (Some why) bytes = CompactOfTape tape (Some why) bytes

-- a number names no style or rule, whatever the input is
abbrev pub IsBadChoice : Option Fault → List ℕ → Type 0
IsBadChoice found bytes = (found ≡ Some fault.BadChoice) × (bytes ≡ [])

-- in the style of this number: 0 without white space, 1 laid out
abbrev pub JsonOfTapeDue : ℕ → List ℕ → Option Fault → List ℕ → Type 0
JsonOfTapeDue zero tape found bytes = CompactOfTape tape found bytes
JsonOfTapeDue (suc zero) tape found bytes = PrettyOfTape tape found bytes
JsonOfTapeDue (suc (suc style)) tape found bytes = IsBadChoice found bytes

-- ---- as CBOR

-- the bytes of what the tree packs to (RFC 8949)
pub data CborOfTapeDue (tape : List ℕ) : Option Fault → List ℕ → Type 0 where
  has_cbor : (tree : Tree) (json : Json) → SpellsTree tape tree → pack_of tree ≡ Ok json → CborOfTapeDue tape None (cbor json)
  no_cbor : (tree : Tree) (why : PackRefusal) → SpellsTree tape tree → pack_of tree ≡ Err why → CborOfTapeDue tape (Some (fault_of_pack why)) []
  spells_none : (why : Fault) → SpellsNone tape why → CborOfTapeDue tape (Some why) []

-- ---- in one pass

-- the bytes are the tape of one whole value, and a stream took all its calls
pub record PassesTape {V : Type 0} (law : Law V) (tape : List ℕ) (old new : Standing V) : Type 0 where
  pub calls : List Call
  pub is : IsTape tape calls
  pub value : IsOneValue (makes calls)
  pub ran : Ran law old.view calls new.view

-- the bytes are the tape of one whole value, which was written as JSON
pub record WritesTape (tape : List ℕ) (old new : Told) : Type 0 where
  pub calls : List Call
  pub is : IsTape tape calls
  pub value : IsOneValue (makes calls)
  pub streams : StreamsJson Inside (makes calls) (Ok tt) old new
