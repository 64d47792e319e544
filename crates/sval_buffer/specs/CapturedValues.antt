-- What capturing a value answers.
use Rattle.std.specs.Prelude.{◌≡◌, ℕ, true, false, List, [], ◌∷◌, ◌++◌, map, Option, Some, None, Result, Ok, Err, ⊤}
use Rattle.sval_label.specs.Calls.{Call}
use Rattle.sval_core.specs.Trees.{Tree}
use Rattle.sval_core.specs.Spells.{Spells}
use Rattle.sval_core.specs.Law.{Emission, computed}
use Rattle.sval_buffer.specs.Forest.{Forest, Holds, RefusedAt, Unbalanced, OutsideText, OutsideBinary, empty_forest, take, may_grow, forest, forest_from, replayed, is_complete}
use Rattle.sval_buffer.specs.declared.error.Word.TheVariants as word
use Rattle.sval_buffer.specs.declared.error.ErrorKind.{ErrorKind}
use Rattle.sval_buffer.specs.declared.error.ErrorKind.TheVariants as error
use Rattle.sval_buffer.specs.Capture.{Capture, IsNoAlloc, IsAccepted}
use Rattle.sval_buffer.specs.Owned.{owned}

-- all calls were taken, and none was refused; and the value doesn't refuse
pub record IsCaptured (e : Emission) (buffer : Capture) : Type 0 where
  pub willing : e.refuses ≡ false
  pub taken : forest e.calls ≡ Holds buffer.forest
  pub no_refusal : buffer.refusal ≡ None
  pub wants : buffer.wants ≡ 0

-- the value doesn't refuse, and its calls leave this forest
pub record IsCapturedForest (e : Emission) (f : Forest) : Type 0 where
  pub willing : e.refuses ≡ false
  pub taken : forest e.calls ≡ Holds f

-- Memory was wanting in one of the calls, where they meet this forest and the first has this number: those before it are
-- taken, and so is this one, which may take memory.
pub record RunsOutFrom (start : Forest) (number : ℕ) (calls : List Call) : Type 0 where
  pub before : List Call
  pub call : Call
  pub later : List Call
  pub calls_are : calls ≡ before ++ (call ∷ later)
  pub held : Forest
  pub before_taken : forest_from start number before ≡ Holds held
  pub accepted : IsAccepted (take held call)
  pub takes_memory : may_grow held call ≡ true

-- the same of calls that meet no part
abbrev pub RunsOut : List Call → Type 0
RunsOut calls = RunsOutFrom empty_forest 1 calls

-- one of the calls is refused so, or none is and the value refuses, or memory was wanting in one
abbrev pub IsCollectCause : Emission → ErrorKind → Type 0
IsCollectCause e (error.OutsideContainer word.Text) = (at : ℕ) × (forest e.calls ≡ RefusedAt at OutsideText)
IsCollectCause e (error.OutsideContainer word.Binary) = (at : ℕ) × (forest e.calls ≡ RefusedAt at OutsideBinary)
IsCollectCause e (error.InvalidValue word.Unbalanced) = (at : ℕ) × (forest e.calls ≡ RefusedAt at Unbalanced)
IsCollectCause e (error.InvalidValue word.FailedToStream) = (e.refuses ≡ true) × ((f : Forest) × (forest e.calls ≡ Holds f))
IsCollectCause e (error.NoAlloc method) = RunsOut e.calls
IsCollectCause e _ = ⊥

-- the replay spells the tree, no container is without its end, and the buffer is complete
pub record SpellsAgain (f : Forest) (tree : Tree) : Type 0 where
  pub spells : Spells (replayed f) tree
  pub no_spine : f.spine ≡ []
  pub complete : is_complete f ≡ true

-- where the value's calls spell a tree, the replay spells it too
abbrev pub KeepsTree : Emission → Forest → Type 0
KeepsTree e f = (tree : Tree) → Spells e.calls tree → SpellsAgain f tree

-- the answer is Ok, or says that memory was wanting
abbrev pub IsOkOrNoAlloc : {T : Type 0} → Result T ErrorKind → Type 0
IsOkOrNoAlloc (Ok _) = ⊤
IsOkOrNoAlloc (Err why) = IsNoAlloc why

-- the last refusal, or else that the value itself failed
abbrev pub cause_by : Option ErrorKind → ErrorKind
cause_by (Some why) = why
cause_by None = error.InvalidValue word.FailedToStream

-- The value doesn't refuse, and its calls were taken, whose texts and binaries are then copies of the buffer's own, not even an empty one of
-- which is borrowed.
pub record IsCapturedOwned (e : Emission) (buffer : Capture) : Type 0 where
  pub willing : e.refuses ≡ false
  pub held : Forest
  pub taken : forest e.calls ≡ Holds held
  pub copies : buffer.forest ≡ owned held
  pub no_refusal : buffer.refusal ≡ None
  pub wants : buffer.wants ≡ 0

-- the same of a value that takes no more calls
pub record IsTakenOwned (e : Emission) (f : Forest) : Type 0 where
  pub willing : e.refuses ≡ false
  pub held : Forest
  pub taken : forest e.calls ≡ Holds held
  pub copies : f ≡ owned held

-- what capturing by copies blames: the same, but that each fragment may take memory, as a computed one may
abbrev pub IsOwnedCause : Emission → ErrorKind → Type 0
IsOwnedCause e (error.NoAlloc method) = RunsOut (map computed e.calls)
IsOwnedCause e why = IsCollectCause e why
