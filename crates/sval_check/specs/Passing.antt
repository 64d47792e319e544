-- A stream whose calls are checked until one is refused: which calls it takes, and what it passes on.
use Rattle.std.specs.Prelude.{◌≡◌, None, Result, Ok, Err}
use Rattle.sval_label.specs.Calls.{Call}
use Rattle.sval_core.specs.Law.{Law, Standing}
use Rattle.sval_core.specs.Checker.{State}
use Rattle.sval_check.specs.Checked.{CheckedView, CheckedAccepts, IsCause, checked_after}
use Rattle.sval_check.specs.declared.checked.Why.{Why}
use Rattle.sval_check.specs.declared.passing.Passing.{Passing}

-- the machine's state, which stands for the calls so far
abbrev pub passing_state : {S : Type 0} → Passing S → State
passing_state passing = passing.machine

-- the inner stream
abbrev pub passing_inner : {S : Type 0} → Passing S → S
passing_inner passing = passing.inner

-- the view of one over a stream that stands where this says: it keeps no cause of a refusal, and counts each as a want
abbrev pub seen_passing : {S V : Type 0} → (S → Standing V) → Passing S → CheckedView V
seen_passing standing passing =
    record { state = passing_state passing; inner = standing (passing_inner passing); why = None; wants = passing.refusals }

-- a call was refused for this cause, as one of a stream of checked calls is; nothing is said of the machine's state
abbrev pub IsLeftPassing : {V : Type 0} → Law V → CheckedView V → Call → CheckedView V → Type 0
IsLeftPassing law view call left = (why : Why) × IsCause law view call left.inner why

-- it takes the calls that a stream of checked calls takes, and passes the same on
abbrev pub passing_law : {V : Type 0} → Law V → Law (CheckedView V)
passing_law law = record { accepts = CheckedAccepts law; after = checked_after law; stopped = IsLeftPassing law }

-- what passing a call on says: it was taken, or there is a cause to refuse it, which isn't counted yet
abbrev pub StepsAndPasses : {V : Type 0} → Law V → CheckedView V → Call → CheckedView V → Result (Unit {0}) Why → Type 0
StepsAndPasses law old call new (Ok done) = CheckedAccepts law old call × (new ≡ checked_after law old call)
StepsAndPasses law old call new (Err why) = IsCause law old call new.inner why × (new.wants ≡ old.wants)
