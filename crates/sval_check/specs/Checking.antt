-- What is kept of calls that are checked for one tree, and which calls go on with it.
use Rattle.std.specs.Prelude.{◌≡◌, ℕ, true, false, [], Option, Some, None, Result, Ok, Err}
use Rattle.sval_label.specs.Calls.{Call}
use Rattle.sval_core.specs.Law.{Law, Standing, one_more}
use Rattle.sval_core.specs.Checker.{State}
use Rattle.sval_core.specs.CheckerSteps.{unfilled, goes_on, state_after}
use Rattle.sval_check.specs.Checks.{has_own_end}
use Rattle.sval_check.specs.declared.error.CheckError.{CheckError}
use Rattle.sval_check.specs.declared.error.CheckError.TheVariants as error
use Rattle.sval_check.specs.declared.machine.Refusal.{Refusal}
use Rattle.sval_check.specs.declared.machine.Refusal.TheVariants.{NotViable, NoMemory}
use Rattle.sval_check.specs.declared.checker.Checker.{Checker}

-- the machine's state, how many calls came, and why one was refused
pub record Checking : Type 0 where
  pub state : State
  pub taken : ℕ
  pub why : Option Refusal

-- what a checker keeps
abbrev pub checking : Checker → Checking
checking checker = record { state = checker.machine; taken = checker.taken; why = checker.why }

-- before any call
abbrev pub nothing_checked : Checking
nothing_checked = record { state = unfilled []; taken = 0; why = None }

-- the wants of memory: one is the last thing that happens
abbrev pub wants_of : Option Refusal → ℕ
wants_of (Some NoMemory) = 1
wants_of other = 0

-- where it stands: it has no faults of its own
abbrev pub checking_standing : Checking → Standing Checking
checking_standing c = record { view = c; faults = 0; wants = wants_of c.why }

-- no call was refused, and a value goes on with this one
pub record ValueGoesOn (c : Checking) (call : Call) : Type 0 where
  pub willing : c.why ≡ None
  pub viable : goes_on c.state call ≡ true

-- after one more call that is taken
abbrev pub checking_after : Checking → Call → Checking
checking_after c call = record c { state = state_after call c.state; taken = one_more c.taken }

-- where a call may be refused for this: memory may be wanting for what it begins
abbrev pub IsCauseFor : Checking → Call → Refusal → Type 0
IsCauseFor c call NotViable = goes_on c.state call ≡ false
IsCauseFor c call NoMemory = (goes_on c.state call ≡ true) × (has_own_end call ≡ true)

-- a call that was refused is counted, and its cause kept
pub record IsEndedBy (c : Checking) (call : Call) (left : Checking) : Type 0 where
  pub last : Refusal
  pub why : left.why ≡ Some last
  pub cause : IsCauseFor c call last
  pub taken : left.taken ≡ one_more c.taken

-- the law of what checks calls for one tree: after a refusal nothing more is said
abbrev pub checking_law : Law Checking
checking_law = record { accepts = ValueGoesOn; after = checking_after; stopped = λ c call left. c.why ≡ None → IsEndedBy c call left }

-- what one step says, before its refusal is kept
abbrev pub StepsOrRefuses : Checking → Call → Checking → Result (Unit {0}) Refusal → Type 0
StepsOrRefuses old call new (Ok done) = (goes_on old.state call ≡ true) × (new ≡ checking_after old call)
StepsOrRefuses old call new (Err why) = IsCauseFor old call why × (new.taken ≡ one_more old.taken)

-- what is answered where a call was refused for this, of which this is the number, or the value itself refused
abbrev pub stop_by : Option Refusal → ℕ → CheckError
stop_by (Some NotViable) taken = error.BadCall taken
stop_by (Some NoMemory) taken = error.NoMemory
stop_by None taken = error.Refused
