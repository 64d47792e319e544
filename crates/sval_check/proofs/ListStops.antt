-- A call that is refused as one of a value is refused as one of a list of values.
use Rattle.std.specs.Prelude.{ℕ, List, Result, Ok, Err, IsErr}
use Rattle.std.proofs.Common.{inl, inr}
use Rattle.sval_label.specs.Calls.{Call}
use Rattle.sval_label.specs.declared.error.Error.{Error}
use Rattle.sval_core.specs.Law.{Law, Standing, HasCause, Refuses, Answers}
use Rattle.sval_check.specs.declared.machine.Refusal.{Refusal}
use Rattle.sval_check.specs.declared.machine.Refusal.TheVariants.{NotViable, NoMemory}
use Rattle.sval_check.specs.Checking.{Checking, checking_law, checking_standing, IsCauseFor, IsEndedBy}
use Rattle.sval_check.specs.Listing.{Listed, listing_law, listed_standing, IsStopFor, IsListedRefusal}

-- what is kept of one value, and where the values before it ended
abbrev pub with_ends : List ℕ → Checking → Listed
with_ends ends c = record { state = c.state; ends = ends; taken = c.taken; why = c.why }

cause_of_stop : (ends : List ℕ) (old : Checking) (call : Call) (why : Refusal) → IsCauseFor old call why → IsStopFor (with_ends ends old) call why
cause_of_stop ends old call NotViable c = c
cause_of_stop ends old call NoMemory c = (c.0, inl c.1)

pub refused_in_list : (ends : List ℕ) (old new : Checking) (call : Call) → Refuses checking_law (checking_standing old) call (checking_standing new)
    → Refuses listing_law (listed_standing (with_ends ends old)) call (listed_standing (with_ends ends new))
refused_in_list ends old new call r = record { cause = by_cause r.cause; left = λ willing. by_left (r.left willing); faults = r.faults; wants = r.wants }
  where
    by_cause : HasCause checking_law old call (checking_standing old) (checking_standing new)
        → HasCause listing_law (with_ends ends old) call (listed_standing (with_ends ends old)) (listed_standing (with_ends ends new))
    by_cause (inl not) = inl (λ a. not (record { willing = a.willing; viable = a.viable }))
    by_cause (inr rose) = inr rose

    by_left : IsEndedBy old call new → IsListedRefusal (with_ends ends old) call (with_ends ends new)
    by_left e = record { last = e.last; why = e.why; cause = cause_of_stop ends old call e.last e.cause; taken = e.taken }

pub passes_on : {V : Type 0} {law : Law V} {old new : Standing V} {call : Call} (r : Result (Unit {0}) Error) → IsErr r → Refuses law old call new → Answers law r old call new
passes_on (Ok done) is refuses = cc is
passes_on (Err refusal) is refuses = refuses
