-- Calls that are made of a stream one by one, each taken or refused, and what they leave of a buffer for values, as facts.
use Rattle.std.specs.Prelude.{◌≡◌, ℕ, Bool, true, false, List, [], ◌∷◌, ◌++◌, map, Some}
use Rattle.sval_label.specs.Calls.{Call}
use Rattle.sval_core.specs.Trees.{Tree}
use Rattle.sval_core.specs.Spells.{Spells}
use Rattle.sval_core.specs.Law.{Law, Standing, Takes, Refuses}
use Rattle.sval_buffer.specs.Forest.{Forest, Holds, empty_forest, take, may_grow, forest, forest_from}
use Rattle.sval_buffer.specs.Capture.{Capture, no_calls, IsCaptureCause, capture_law, capture_standing}
use Rattle.sval_buffer.specs.CapturedValues.{SpellsAgain}
use Rattle.sval_buffer.specs.declared.error.ErrorKind.{ErrorKind}

-- a call that was made, and whether it was taken
pub record Made : Type 0 where
  pub call : Call
  pub taken : Bool

-- the same of a call that was taken, and of one that was refused
abbrev pub taken_call : Call → Made
taken_call call = record { call = call; taken = true }

abbrev pub refused_call : Call → Made
refused_call call = record { call = call; taken = false }

-- what the stream's law says of the answer
abbrev pub AnswersMade : {V : Type 0} → Law V → Standing V → (was_taken : Bool) → Call → Standing V → Type 0
AnswersMade law old true call new = Takes law old call new
AnswersMade law old false call new = Refuses law old call new

-- the stream answered each call where the answer before it left it
abbrev pub AnswersEach : {V : Type 0} → Law V → Standing V → List Made → Standing V → Type 0
AnswersEach law old [] new = new ≡ old
AnswersEach {V} law old (made ∷ later) new = (next : Standing V) × AnswersMade law old made.taken made.call next × AnswersEach law next later new

-- a call in front of others, if it was taken
abbrev pub if_taken : (was_taken : Bool) → Call → List Call → List Call
if_taken true call later = call ∷ later
if_taken false call later = later

-- the calls that were taken, in order
abbrev pub taken_calls : List Made → List Call
taken_calls [] = []
taken_calls (made ∷ later) = if_taken made.taken made.call (taken_calls later)

-- a new or cleared buffer that was made these calls stands so
abbrev pub StandsAfter : List Made → Standing Capture → Type 0
StandsAfter made new = (wants : ℕ) × AnswersEach capture_law (capture_standing (no_calls wants)) made new

-- a buffer holds what the calls that it took leave by themselves: those that it refused leave nothing
abbrev pub HoldsTakenCalls : Type 0
HoldsTakenCalls = (made : List Made) (new : Standing Capture) → StandsAfter made new → forest (taken_calls made) ≡ Holds new.view.forest

-- where the calls that it took spell a tree, so does its replay, whichever calls it refused between them
abbrev pub TakenCallsKeepTheTree : Type 0
TakenCallsKeepTheTree =
    (made : List Made) (new : Standing Capture) (tree : Tree) → StandsAfter made new → Spells (taken_calls made) tree → SpellsAgain new.view.forest tree

-- this is why the last refused call was refused, where the calls taken before it leave this of the forest: all calls after it were taken
pub record LastRefused (start : Forest) (number : ℕ) (made : List Made) (why : ErrorKind) : Type 0 where
  pub before : List Made
  pub call : Call
  pub later : List Call
  pub made_are : made ≡ before ++ (refused_call call ∷ map taken_call later)
  pub held : Forest
  pub before_leave : forest_from start number (taken_calls before) ≡ Holds held
  pub cause : IsCaptureCause (may_grow held call) (take held call) why

-- the refusal that a buffer keeps is the cause of the last refused call
abbrev pub KeepsLastCause : Type 0
KeepsLastCause =
    (made : List Made) (new : Standing Capture) (why : ErrorKind) → StandsAfter made new → new.view.refusal ≡ Some why → LastRefused empty_forest 1 made why
