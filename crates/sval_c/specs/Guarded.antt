-- A stream whose calls are checked until one is refused: which calls it takes, and what it passes on.
use Rattle.std.specs.Prelude.{◌≡◌, ◌≤◌, Bool, true, false, None}
use Rattle.sval_label.specs.Calls.{Call}
use Rattle.sval_core.specs.Law.{Law, Standing}
use Rattle.sval_core.specs.Checker.{State}
use Rattle.sval_check.specs.Checked.{CheckedView, CheckedAccepts, checked_after}
use Rattle.sval_c.specs.declared.guarded.Guarded.{Guarded}

-- the machine's state, which stands for the calls so far
abbrev pub guarded_state : {S : Type 0} → Guarded S → State
guarded_state guarded = guarded.machine

-- the inner stream
abbrev pub guarded_inner : {S : Type 0} → Guarded S → S
guarded_inner guarded = guarded.inner

-- the view of one over a stream that stands where this says: it keeps no cause of a refusal, and counts each as a want
abbrev pub seen_guarded : {S V : Type 0} → (S → Standing V) → Guarded S → CheckedView V
seen_guarded standing guarded =
    record { state = guarded_state guarded; inner = standing (guarded_inner guarded); why = None; wants = guarded.refusals }

-- it takes the calls that a stream of checked calls takes, and passes the same on; of what a refusal leaves nothing is said
abbrev pub guarded_law : {V : Type 0} → Law V → Law (CheckedView V)
guarded_law law = record { accepts = CheckedAccepts law; after = checked_after law; stopped = λ view call left. Unit {0} }

-- what passing a call on says: it was taken, or no count has changed but those of the inner stream, which never fall
abbrev pub PassesOn : {V : Type 0} → Law V → CheckedView V → Call → CheckedView V → Bool → Type 0
PassesOn law old call new true = CheckedAccepts law old call × (new ≡ checked_after law old call)
PassesOn law old call new false = (old.inner.faults ≤ new.inner.faults) × (new.wants ≡ old.wants)
