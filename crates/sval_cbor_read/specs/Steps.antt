-- Steps of the reader from one spot of the bytes to another, and what they say of all bytes.
use Rattle.std.specs.Prelude.{◌≡◌, ℕ, ◌<◌, Bool, true, false, List, [], ◌++◌, length, Some, None}
use Rattle.sval_label.specs.Calls.{Call}
use Rattle.sval_core.specs.Trees.{Tree}
use Rattle.sval_cbor_read.specs.Items.{IsItem}
use Rattle.sval_cbor_read.specs.Reading.{ItemState, Item, Move, reading_step, Reached}

-- where the reader is: what comes next, the bytes that are left, and the calls that were made
pub record Spot : Type 0 where
  pub state : ItemState
  pub left : List ℕ
  pub made : List Call

-- a spot by its three parts
abbrev pub spot : ItemState → List ℕ → List Call → Spot
spot state left made = record { state = state; left = left; made = made }

-- before the first step
abbrev pub first_spot : List ℕ → Spot
first_spot bytes = spot (Item []) bytes []

-- one or more steps
pub data ItemSteps : Spot → Spot → Type 0 where
  one_step : {state : ItemState} {left : List ℕ} {made : List Call} {move : Move} → reading_step state left ≡ Some move
      → ItemSteps (spot state left made) (spot move.next move.left (made ++ move.calls))
  more_steps : {first second third : Spot} → ItemSteps first second → ItemSteps second third → ItemSteps first third

-- the steps from the bytes' first on lead to this spot
abbrev pub IsReached : List ℕ → Spot → Type 0
IsReached bytes at = Reached bytes at.state at.left at.made

-- bytes whose steps lead to this spot begin with no item
abbrev pub IsStuck : Spot → Type 0
IsStuck at = (bytes : List ℕ) → IsReached bytes at → (tree : Tree) (rest : List ℕ) → IsItem bytes tree rest → ⊥

-- steps from this spot on, or none, lead to one from which no step leads on, with these bytes left
pub data StopsWith : Spot → List ℕ → Type 0 where
  at_once : {state : ItemState} {left : List ℕ} {made : List Call} → reading_step state left ≡ None → StopsWith (spot state left made) left
  after_steps : {first second : Spot} {left : List ℕ} → ItemSteps first second → StopsWith second left → StopsWith first left

-- bytes whose steps lead to this spot begin with no item, and the steps stop where these bytes are left
pub record IsStuckWith (at : Spot) (left : List ℕ) : Type 0 where
  pub no_item : IsStuck at
  pub stops : StopsWith at left

-- steps lead on to the second spot, or the first is stuck and the steps stop where the bytes of the second are left
abbrev pub StepsLead : Spot → Spot → Bool → Type 0
StepsLead first second true = ItemSteps first second
StepsLead first second false = IsStuckWith first second.left

-- steps lead on to where some call was made
pub record MakesSomeCall (first : Spot) : Type 0 where
  pub second : Spot
  pub steps : ItemSteps first second
  pub some : 0 < length second.made
