-- A stream whose calls are checked, over another: which calls it takes, what it passes on, and what a refusal leaves.
use Rattle.std.specs.Prelude.{◌≡◌, ℕ, true, false, List, Option, Some, Result, Ok, Err}
use Rattle.sval_label.specs.Calls.{Call}
use Rattle.sval_core.specs.Law.{Law, Standing, Refuses, one_more}
use Rattle.sval_core.specs.Spells.{IsViable}
use Rattle.sval_core.specs.Checker.{State, kept}
use Rattle.sval_core.specs.CheckerSteps.{goes_on, state_after}
use Rattle.sval_check.specs.Checks.{has_own_end}
use Rattle.sval_check.specs.declared.machine.Refusal.{Refusal}
use Rattle.sval_check.specs.declared.machine.Refusal.TheVariants as refusal
use Rattle.sval_check.specs.declared.checked.Why.{Why}
use Rattle.sval_check.specs.declared.checked.Why.TheVariants.{NotViable, NoMemory, Inner}
use Rattle.sval_check.specs.declared.checked.Checked.{Checked}

-- what it is: the machine's state, where the inner stream stands, the cause of its last refusal, and its own count of wants
pub record CheckedView (V : Type 0) : Type 0 where
  pub state : State
  pub inner : Standing V
  pub why : Option Why
  pub wants : ℕ

-- the machine's state, which stands for the calls so far
abbrev pub state_of : {S : Type 0} → Checked S → State
state_of checked = checked.machine

-- the inner stream
abbrev pub inner_of : {S : Type 0} → Checked S → S
inner_of checked = checked.inner

-- the cause of the last refusal
abbrev pub last_why : {S : Type 0} → Checked S → Option Why
last_why checked = checked.why

-- how often it refused a call that can be completed
abbrev pub own_wants : {S : Type 0} → Checked S → ℕ
own_wants checked = checked.wants

-- the view of one over a stream that stands where this says
abbrev pub seen : {S V : Type 0} → (S → Standing V) → Checked S → CheckedView V
seen standing checked =
    record { state = state_of checked; inner = standing (inner_of checked); why = last_why checked; wants = own_wants checked }

-- the faults are the inner stream's, and the wants its own
abbrev pub checked_standing : {V : Type 0} → CheckedView V → Standing (CheckedView V)
checked_standing view = record { view = view; faults = view.inner.faults; wants = view.wants }

-- the machine's cause of a refusal as that of the stream
abbrev pub why_of : Refusal → Why
why_of refusal.NotViable = NotViable
why_of refusal.NoMemory = NoMemory

-- the count of wants after a refusal for this
abbrev pub wants_after : Why → ℕ → ℕ
wants_after NotViable wants = wants
wants_after _ wants = one_more wants

-- a call is accepted where a value goes on with it, and the inner stream accepts it
pub record CheckedAccepts {V : Type 0} (law : Law V) (view : CheckedView V) (call : Call) : Type 0 where
  pub viable : goes_on view.state call ≡ true
  pub inside : law.accepts view.inner.view call

-- a call that is accepted is passed on
abbrev pub checked_after : {V : Type 0} → Law V → CheckedView V → Call → CheckedView V
checked_after law view call = record view {
  state = state_after call view.state;
  inner = record view.inner { view = law.after view.inner.view call };
}

-- where a call may be refused for this, and what that leaves of the inner stream
abbrev pub IsCause : {V : Type 0} → Law V → CheckedView V → Call → Standing V → Why → Type 0
IsCause law view call inner NotViable = (goes_on view.state call ≡ false) × (inner ≡ view.inner)
IsCause law view call inner NoMemory = (has_own_end call ≡ true) × (goes_on view.state call ≡ true) × (inner ≡ view.inner)
IsCause law view call inner Inner = (goes_on view.state call ≡ true) × Refuses law view.inner call inner

-- a call that was refused leaves the state as it was, and its cause
pub record IsLeftRefused {V : Type 0} (law : Law V) (view : CheckedView V) (call : Call) (left : CheckedView V) : Type 0 where
  pub state : left.state ≡ view.state
  pub last : Why
  pub why : left.why ≡ Some last
  pub cause : IsCause law view call left.inner last
  pub wants : left.wants ≡ wants_after last view.wants

-- the law of a stream whose calls are checked, over one of this law
abbrev pub checked_law : {V : Type 0} → Law V → Law (CheckedView V)
checked_law law = record { accepts = CheckedAccepts law; after = checked_after law; stopped = IsLeftRefused law }

-- what passing a call on says, where no refusal was kept yet: it was taken, or there is a cause to refuse it
abbrev pub PassesCall : {V : Type 0} → Law V → CheckedView V → Call → CheckedView V → Result (Unit {0}) Why → Type 0
PassesCall law old call new (Ok done) = CheckedAccepts law old call × (new ≡ checked_after law old call)
PassesCall law old call new (Err why) = IsCause law old call new.inner why × (new ≡ record old { inner = new.inner })

-- ---- lists of calls

-- these calls are viable, and this is the state that they keep: the calls so far of a stream of this state
pub record StandsFor (state : State) (calls : List Call) : Type 0 where
  pub viable : IsViable calls
  pub keeps : kept calls state
