-- What pruning a value answers.
use Rattle.std.specs.Prelude.{◌≡◌, ◌⊎◌, ⊤, false, List, Option, Some, None, Result, Ok, Err, IfErr}
use Rattle.sval_core.specs.Trees.{Tree}
use Rattle.sval_core.specs.Spells.{Spells}
use Rattle.sval_core.specs.Law.{Emission, Law, Standing, Streams, Stops}
use Rattle.sval_core.specs.Values.{makes}
use Rattle.sval_label.specs.Calls.{Call}
use Rattle.sval_check.specs.Checks.{CheckAnswer, IsOneValue, IsFirstBadCall, OnlyRefuses, IsUnfinished, NeedsMemory}
use Rattle.sval_check.specs.declared.error.CheckError.TheVariants as checked
use Rattle.sval_check.specs.declared.checked.Why.{Why}
use Rattle.sval_check.specs.declared.checked.Why.TheVariants as filter
use Rattle.sval_buffer.specs.Capture.{IsNoAlloc}
use Rattle.sval_buffer.specs.Forest.{Forest, replayed}
use Rattle.sval_buffer.specs.declared.error.ErrorKind.{ErrorKind}
use Rattle.sval_filter.specs.Paths.{Path, Rule}
use Rattle.sval_filter.specs.Pruned.{pruned}
use Rattle.sval_filter.specs.Filtering.{fresh, all_due}
use Rattle.sval_filter.specs.declared.pruning.PruneError.{PruneError}
use Rattle.sval_filter.specs.declared.pruning.PruneError.TheVariants.{BadCall, Unfinished, Refused, NoMemory}

-- the value doesn't refuse, its calls spell a tree, and the replay of this forest spells what is left of that
pub record IsPruned (e : Emission) (rule : Rule) (paths : List Path) (f : Forest) : Type 0 where
  pub willing : e.refuses ≡ false
  pub tree : Tree
  pub spells : Spells e.calls tree
  pub left : Spells (replayed f) (pruned rule paths tree)

-- ---- want of memory

-- memory was wanting to check the value; or it is a whole one, and memory was wanting to filter it or to capture what is left
abbrev pub TakesPruneMemory : Emission → Type 0
TakesPruneMemory e = NeedsMemory e.calls ⊎ IsOneValue e

-- memory was wanting
abbrev pub IsPruneWant : PruneError → Type 0
IsPruneWant why = why ≡ NoMemory

-- ---- what pruning answers

-- the cause of an error
abbrev pub IsPruneCause : Emission → PruneError → Type 0
IsPruneCause e (BadCall at) = IsFirstBadCall e.calls at
IsPruneCause e Unfinished = IsUnfinished e
IsPruneCause e Refused = OnlyRefuses e
IsPruneCause e NoMemory = TakesPruneMemory e

-- the answer where checking answers so, or memory was wanting
abbrev pub IsDueToPrune : {T : Type 0} → CheckAnswer → Result T PruneError → Type 0
IsDueToPrune (Ok done) result = IfErr result IsPruneWant
IsDueToPrune (Err (checked.BadCall at)) result = (result ≡ Err (BadCall at)) ⊎ (result ≡ Err NoMemory)
IsDueToPrune (Err checked.Unfinished) result = (result ≡ Err Unfinished) ⊎ (result ≡ Err NoMemory)
IsDueToPrune (Err checked.Refused) result = (result ≡ Err Refused) ⊎ (result ≡ Err NoMemory)
IsDueToPrune (Err checked.NoMemory) result = result ≡ Err NoMemory

-- the value doesn't refuse, and where its calls spell a tree, the stream took calls that spell what is left of it
abbrev pub PassesPruned : {V : Type 0} → Law V → Standing V → Emission → Rule → List Path → Standing V → Type 0
PassesPruned law old e rule paths new =
    (tree : Tree) → Spells e.calls tree → (e.refuses ≡ false) × ((taken : List Call) × Streams law old (makes taken) new × Spells taken (pruned rule paths tree))

-- ---- where the want came from

-- a buffer refused a call, for want of memory
abbrev pub IsNoAllocIn : Option ErrorKind → Type 0
IsNoAllocIn (Some why) = IsNoAlloc why
IsNoAllocIn None = ⊥

-- a filter lacked memory, or the buffer in it did, by the last refusals of both
abbrev pub IsWanting : Option Why → Option ErrorKind → Type 0
IsWanting (Some filter.NoMemory) refusal = ⊤
IsWanting (Some filter.Inner) refusal = IsNoAllocIn refusal
IsWanting _ refusal = ⊥

-- by its last refusal a filter lacked memory, or the stream in it stopped in these calls
abbrev pub HasStopped : {V : Type 0} → Law V → Option Why → Standing V → List Call → Standing V → Type 0
HasStopped law (Some filter.NoMemory) old calls new = ⊤
HasStopped law (Some filter.Inner) old calls new = Stops law old (makes calls) new
HasStopped law _ old calls new = ⊥

-- the same of the calls that are due of a value that doesn't refuse, where its calls spell a tree
abbrev pub StopsPruned : {V : Type 0} → Law V → Standing V → Emission → Rule → List Path → Option Why → Standing V → Type 0
StopsPruned law old e rule paths why new =
    (tree : Tree) → e.refuses ≡ false → Spells e.calls tree → HasStopped law why old (all_due rule paths fresh e.calls) new
