-- What is kept of calls that are checked for many trees in a row, and which calls go on with it.
use Rattle.std.specs.Prelude.{◌≡◌, ◌⊎◌, ℕ, if◌then◌else◌, true, false, List, [], ◌∷◌, ◌++◌, Option, Some, None}
use Rattle.sval_label.specs.Calls.{Call}
use Rattle.sval_core.specs.Law.{Law, Standing, one_more}
use Rattle.sval_core.specs.Checker.{State}
use Rattle.sval_core.specs.CheckerSteps.{unfilled, goes_on, state_after, is_whole_tree}
use Rattle.sval_core.specs.ManyChecker.{ready}
use Rattle.sval_check.specs.Checks.{has_own_end}
use Rattle.sval_check.specs.declared.machine.Refusal.{Refusal}
use Rattle.sval_check.specs.declared.machine.Refusal.TheVariants.{NotViable, NoMemory}
use Rattle.sval_check.specs.declared.lister.Lister.{Lister}
use Rattle.sval_check.specs.Checking.{wants_of}

-- the machine's state before the next call, where trees ended, how many calls came, and why one was refused
pub record Listed : Type 0 where
  pub state : State
  pub ends : List ℕ
  pub taken : ℕ
  pub why : Option Refusal

-- what a lister keeps
abbrev pub lister_view : Lister → Listed
lister_view lister = record { state = lister.checker.machine; ends = lister.ends; taken = lister.checker.taken; why = lister.checker.why }

-- before any call
abbrev pub nothing_listed : Listed
nothing_listed = record { state = unfilled []; ends = []; taken = 0; why = None }

-- where it stands: it has no faults of its own
abbrev pub listed_standing : Listed → Standing Listed
listed_standing l = record { view = l; faults = 0; wants = wants_of l.why }

-- no call was refused, and a list of values goes on with this one
pub record Continues (l : Listed) (call : Call) : Type 0 where
  pub willing : l.why ≡ None
  pub viable : goes_on l.state call ≡ true

-- a whole tree is done with before the next call
abbrev pub before_next : State → State
before_next s = record { filled = ready s.filled s.frames; frames = s.frames }

-- after one more call, which led to this state: a tree ends with the call where the state is a whole one
abbrev pub led_to : State → Listed → Listed
led_to s l = record l {
  state = before_next s;
  ends = if is_whole_tree s then l.ends ++ (one_more l.taken ∷ []) else l.ends;
  taken = one_more l.taken;
}

-- after a call that is taken
abbrev pub listed_after : Listed → Call → Listed
listed_after l call = led_to (state_after call l.state) l

-- where a call may be refused for this: memory may be wanting for what it begins, or for the end of a tree
abbrev pub IsStopFor : Listed → Call → Refusal → Type 0
IsStopFor l call NotViable = goes_on l.state call ≡ false
IsStopFor l call NoMemory = (goes_on l.state call ≡ true) × ((has_own_end call ≡ true) ⊎ (is_whole_tree (state_after call l.state) ≡ true))

-- a call that was refused is counted, and its cause kept
pub record IsListedRefusal (l : Listed) (call : Call) (left : Listed) : Type 0 where
  pub last : Refusal
  pub why : left.why ≡ Some last
  pub cause : IsStopFor l call last
  pub taken : left.taken ≡ one_more l.taken

-- the law of what checks calls for many trees: after a refusal nothing more is said
abbrev pub listing_law : Law Listed
listing_law = record { accepts = Continues; after = listed_after; stopped = λ l call left. l.why ≡ None → IsListedRefusal l call left }
