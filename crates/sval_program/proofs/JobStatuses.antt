-- Which statuses a run ends with.
use Rattle.std.specs.Prelude.{◌≡◌, ◌↔◌, ℕ, ◌==◌, Bool, true, false, ◌||◌, List, ◌∷◌, Option, Some, None, Err, refl}
use Rattle.std.proofs.Common.{arith}
use Rattle.sval_io.specs.declared.sink.SinkError.{SinkError}
use Rattle.sval_io.specs.declared.sink.SinkError.TheVariants as sink
use Rattle.sval_io.specs.declared.input_error.InputError.{InputError}
use Rattle.sval_io.specs.declared.input_error.InputError.TheVariants as input
use Rattle.sval_program.specs.declared.failure.Failure.TheVariants.{Input, Write}
use Rattle.sval_program.specs.declared.status.TheConstants.{DONE, USAGE, WRITE, READ, NO_MEMORY, TOO_LONG}
use Rattle.sval_program.specs.Failures.{status_of_fault, status_of}
use Rattle.sval_program.specs.Runs.{is_status}
use Rattle.sval_program.specs.Statuses.{is_among}
use Rattle.sval_program.proofs.JobRuns.{Case, Ended, Ran, by_end, no_fault, unread_status, stopped_status}

-- ---- the statuses there are

or_more : (s : ℕ) (statuses : List ℕ) (status : ℕ) → is_among status statuses ≡ true → is_among status (s ∷ statuses) ≡ true
or_more s statuses status e = either (s == status) e
  where
    either : (b : Bool) → is_among status statuses ≡ true → (b || is_among status statuses) ≡ true
    either true e = refl
    either false e = e

pub known : {Form I K : Type 0} (k : Case Form I K) (form : Option Form) (r : Ended) → Ran k form r → is_status k.terms (status_of r) ≡ true
known k = by_end k (λ form r. is_status k.terms (status_of r) ≡ true)
    (λ input out. refl)
    (λ asked s. refl)
    (λ asked why u. of_input why)
    (λ asked why s. of_fault (status_of_fault why) s.serves.known)
    (λ asked s. refl)
    (λ asked why s. of_sink why)
  where
    of_input : (why : InputError) → is_status k.terms (status_of (Err (Input why))) ≡ true
    of_input input.ReadFault = refl
    of_input input.TooLong = refl
    of_input input.NoMemory = refl

    of_sink : (why : SinkError) → is_status k.terms (status_of (Err (Write why))) ≡ true
    of_sink sink.Failed = refl
    of_sink sink.NoMemory = refl

    of_fault : (status : ℕ) → is_among status k.terms.faults ≡ true → is_status k.terms status ≡ true
    of_fault status e =
        or_more DONE (USAGE ∷ WRITE ∷ READ ∷ NO_MEMORY ∷ TOO_LONG ∷ k.terms.faults) status
        (or_more USAGE (WRITE ∷ READ ∷ NO_MEMORY ∷ TOO_LONG ∷ k.terms.faults) status
        (or_more WRITE (READ ∷ NO_MEMORY ∷ TOO_LONG ∷ k.terms.faults) status
        (or_more READ (NO_MEMORY ∷ TOO_LONG ∷ k.terms.faults) status
        (or_more NO_MEMORY (TOO_LONG ∷ k.terms.faults) status
        (or_more TOO_LONG k.terms.faults status e)))))

-- ---- words that are no form

pub usage : {Form I K : Type 0} (k : Case Form I K) (form : Option Form) (r : Ended) → Ran k form r → (status_of r ≡ USAGE) ↔ (form ≡ None)
usage k = by_end k (λ form r. (status_of r ≡ USAGE) ↔ (form ≡ None))
    (λ input out. both (λ e. refl) (λ e. refl))
    (λ asked s. neither (λ e. omega (arith, e)))
    (λ asked why u. neither ((unread_status why).3))
    (λ asked why s. neither (no_fault why USAGE refl))
    (λ asked s. neither (λ e. omega (arith, e)))
    (λ asked why s. neither ((stopped_status why).3))
  where
    both : {A B : Type 0} → (A → B) → (B → A) → A ↔ B
    both f g = (f, g)

    neither : {A : Type 0} {F : Type 0} {x : F} → (A → ⊥) → A ↔ (Some x ≡ None)
    neither never = both (λ a. absurd (never a)) (λ e. absurd (cc e))
