-- What a stream has taken after a value, for whoever streams one into a stream of his own.
use Rattle.std.specs.Prelude.{◌≡◌, ℕ, ◌-◌, ◌^◌, ◌<◌, Bool, true, List, [], ◌∷◌, fold}
use Rattle.std.proofs.Common.{arith, inl, inr}
use Rattle.sval_label.specs.Calls.{Call}
use Rattle.sval_core.specs.Law.{Law, Standing, Emission, HasCause, Rose, Ran, Streams, StoppedIn, Stops}

module _ {V : Type 0} (law : Law V) where
  ran_folds : (calls : List Call) (v u : V) → Ran law v calls u → u ≡ fold law.after v calls
  ran_folds [] v u ran = ran
  ran_folds (call ∷ calls) v u ran = ran_folds calls (law.after v call) u ran.1

  -- after a value: what its calls make of the view, one by one
  pub streams_folds : {old new : Standing V} {e : Emission} → Streams law old e new → new.view ≡ fold law.after old.view e.calls
  streams_folds {old = old} {new = new} {e = e} s = ran_folds e.calls old.view new.view s.ran

  rose_never : (before now : ℕ) → now ≡ before → before < 2 ^ 64 - 1 → Rose before now → ⊥
  rose_never before now still below rose = omega (arith, still, below, rose)

  module _ (accepts : (v : V) (call : Call) → law.accepts v call) (old new : Standing V) (faults : new.faults ≡ old.faults) (wants : new.wants ≡ old.wants)
      (few_faults : old.faults < 2 ^ 64 - 1) (few_wants : old.wants < 2 ^ 64 - 1) where
    no_cause : (v : V) (call : Call) → HasCause law v call old new → ⊥
    no_cause v call (inl never) = never (accepts v call)
    no_cause v call (inr (inl rose)) = rose_never old.faults new.faults faults few_faults rose
    no_cause v call (inr (inr rose)) = rose_never old.wants new.wants wants few_wants rose

    value_refused : (calls : List Call) (refuses : Bool) (v : V) → StoppedIn law old new v calls refuses → refuses ≡ true
    value_refused [] refuses v s = s.0
    value_refused (call ∷ calls) refuses v (inl s) = absurd (no_cause v call s.0)
    value_refused (call ∷ calls) refuses v (inr s) = value_refused calls refuses (law.after v call) s.1

  -- where the stream accepts all calls and no count rose, the value itself refused
  pub stops_by_value : {old new : Standing V} {e : Emission} → ((v : V) (call : Call) → law.accepts v call) → new.faults ≡ old.faults → new.wants ≡ old.wants
      → old.faults < 2 ^ 64 - 1 → old.wants < 2 ^ 64 - 1 → Stops law old e new → e.refuses ≡ true
  stops_by_value {old = old} {new = new} {e = e} accepts faults wants few_faults few_wants s =
      value_refused accepts old new faults wants few_faults few_wants e.calls e.refuses old.view s.stopped
