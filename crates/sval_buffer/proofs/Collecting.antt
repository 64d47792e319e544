-- Which calls a buffer took, and where it stopped.
use Rattle.std.specs.Prelude.{◌≡◌, ℕ, ◌+◌, ◌≤◌, ◌⊎◌, Bool, true, false, List, [], ◌∷◌, Option, Some, None, refl}
use Rattle.std.proofs.Common.{sym, ap, ◌∙◌, subst, arith, inl, inr}
use Rattle.sval_label.specs.Calls.{Call}
use Rattle.sval_core.specs.Trees.{Tree}
use Rattle.sval_core.specs.Spells.{Spells}
use Rattle.sval_core.specs.Law.{Standing, Emission, Refuses, Rose, one_more, Ran, Streams, StoppedIn, Stops}
use Rattle.sval_buffer.specs.Forest.{Forest, CaptureAnswer, Becomes, Rejects, Misfit, Unbalanced, OutsideText, OutsideBinary, Holds, RefusedAt, empty_forest, take, may_grow, forest, forest_from}
use Rattle.sval_buffer.specs.declared.error.Word.TheVariants as word
use Rattle.sval_buffer.specs.declared.error.ErrorKind.{ErrorKind}
use Rattle.sval_buffer.specs.declared.error.ErrorKind.TheVariants as error
use Rattle.sval_buffer.specs.Capture.{Capture, no_calls, error_of, IsNoAlloc, IsAccepted, forest_by, IsCaptureCause, wants_after_error, capture_law, capture_law_by, capture_standing}
use Rattle.sval_buffer.specs.CapturedValues.{IsCaptured, RunsOutFrom, RunsOut, IsCollectCause, SpellsAgain, KeepsTree, cause_by}
use Rattle.sval_buffer.proofs.SameTree.{capture_keeps}

-- ---- one call

rose_once : (why : ErrorKind) (wants : ℕ) → IsNoAlloc why → one_more wants ≤ wants_after_error why wants
rose_once (error.NoAlloc method) wants h = omega arith
rose_once (error.Unsupported actual expected) wants h = absurd h
rose_once (error.InvalidValue reason) wants h = absurd h
rose_once (error.OutsideContainer method) wants h = absurd h

pub refuses_by : (grows : Forest → Call → Bool) (answer : Forest → Call → CaptureAnswer) (old new : Capture) (call : Call) (f : Forest) (why : ErrorKind) → f ≡ old.forest
    → IsCaptureCause (grows old.forest call) (answer old.forest call) why → new ≡ record { forest = f; refusal = Some why; wants = wants_after_error why old.wants } → old.wants ≤ new.wants
    → Refuses (capture_law_by grows answer) (capture_standing old) call (capture_standing new)
refuses_by grows answer old new call f why same cause now rises = record {
  cause = go (answer old.forest call) cause;
  left = record {
    forest = ap (λ (c : Capture). c.forest) now ∙ same;
    why = why;
    refusal = ap (λ (c : Capture). c.refusal) now;
    cause = cause;
    wants = ap (λ (c : Capture). c.wants) now;
  };
  faults = omega arith;
  wants = rises;
}
  where
    go : (a : CaptureAnswer) → IsCaptureCause (grows old.forest call) a why → (IsAccepted a → ⊥) ⊎ (Rose 0 0 ⊎ Rose old.wants new.wants)
    go (Becomes g) h = let now_wants = ap (λ (c : Capture). c.wants) now in let r = rose_once why old.wants h.no_alloc in inr (inr (omega (arith, r, now_wants)))
    go (Rejects misfit) h = inl (λ no. no)

-- ---- all calls

ran_holds : (calls : List Call) (n : ℕ) (v u : Capture) → Ran capture_law v calls u → (forest_from v.forest n calls ≡ Holds u.forest) × (u.refusal ≡ v.refusal)
unfolding forest_from
ran_holds [] n v u e = (ap (λ (c : Capture). Holds c.forest) (sym e), ap (λ (c : Capture). c.refusal) e)
ran_holds (call ∷ calls) n v u r = go (take v.forest call) (λ w k. ran_holds calls (n + 1) w u k) r.0 r.1
  where
    go : (a : CaptureAnswer) → ((w : Capture) → Ran capture_law w calls u → (forest_from w.forest (n + 1) calls ≡ Holds u.forest) × (u.refusal ≡ w.refusal))
        → IsAccepted a → Ran capture_law (record { forest = forest_by a v.forest; refusal = v.refusal; wants = v.wants }) calls u
        → (elim a [ Becomes g ↦ forest_from g (n + 1) calls | Rejects misfit ↦ RefusedAt n misfit ] ≡ Holds u.forest) × (u.refusal ≡ v.refusal)
    go (Becomes g) rest t k = rest (record { forest = g; refusal = v.refusal; wants = v.wants }) k
    go (Rejects misfit) rest t k = absurd t

runs_out_here : (f : Forest) (n : ℕ) (call : Call) (later : List Call) → IsAccepted (take f call) → may_grow f call ≡ true → RunsOutFrom f n (call ∷ later)
unfolding forest_from
runs_out_here f n call later accepted grows = record {
  before = [];
  call = call;
  later = later;
  calls_are = refl;
  held = f;
  before_taken = refl;
  accepted = accepted;
  takes_memory = grows;
}

runs_out_later : (f g : Forest) (n : ℕ) (call : Call) (calls : List Call) → take f call ≡ Becomes g → RunsOutFrom g (n + 1) calls → RunsOutFrom f n (call ∷ calls)
unfolding forest_from
runs_out_later f g n call calls taken out = record {
  before = call ∷ out.before;
  call = out.call;
  later = out.later;
  calls_are = ap (λ xs. call ∷ xs) out.calls_are;
  held = out.held;
  before_taken = ap (λ a. elim a [ Becomes h ↦ forest_from h (n + 1) out.before | Rejects misfit ↦ RefusedAt n misfit ]) taken ∙ out.before_taken;
  accepted = out.accepted;
  takes_memory = out.takes_memory;
}

-- where they stopped: memory was wanting, or a call was refused, or none was and the value refuses
abbrev Halted : Forest → ℕ → List Call → Bool → Option ErrorKind → Type 0
Halted f n calls refuses None = (refuses ≡ true) × ((g : Forest) × (forest_from f n calls ≡ Holds g))
Halted f n calls refuses (Some why) =
    (IsNoAlloc why × RunsOutFrom f n calls) ⊎ ((at : ℕ) × (misfit : Misfit) × (forest_from f n calls ≡ RefusedAt at misfit) × (why ≡ error_of misfit))

halted_later : (f g : Forest) (n : ℕ) (call : Call) (calls : List Call) (refuses : Bool) (o : Option ErrorKind) → take f call ≡ Becomes g → Halted g (n + 1) calls refuses o → Halted f n (call ∷ calls) refuses o
unfolding forest_from
halted_later f g n call calls refuses o taken = go o (ap (λ a. elim a [ Becomes h ↦ forest_from h (n + 1) calls | Rejects misfit ↦ RefusedAt n misfit ]) taken)
  where
    go : (o : Option ErrorKind) → forest_from f n (call ∷ calls) ≡ forest_from g (n + 1) calls → Halted g (n + 1) calls refuses o → Halted f n (call ∷ calls) refuses o
    go None same h = (h.0, (h.1.0, same ∙ h.1.1))
    go (Some why) same (inl h) = inl (h.0, runs_out_later f g n call calls taken h.1)
    go (Some why) same (inr h) = inr (h.0, h.1, same ∙ h.2, h.3)

stopped_halts : (calls : List Call) (refuses : Bool) (old new : Standing Capture) (n : ℕ) (v : Capture) → v.refusal ≡ None → StoppedIn capture_law old new v calls refuses
    → Halted v.forest n calls refuses new.view.refusal
unfolding forest_from
stopped_halts [] refuses old new n v fresh s =
    subst (Halted v.forest n [] refuses) (sym (ap (λ (c : Capture). c.refusal) s.1 ∙ fresh)) (s.0, (v.forest, refl))
stopped_halts (call ∷ calls) refuses old new n v fresh (inl s) =
    subst (Halted v.forest n (call ∷ calls) refuses) (sym s.1.refusal) (go (take v.forest call) refl s.1.cause)
  where
    go : (a : CaptureAnswer) → take v.forest call ≡ a → IsCaptureCause (may_grow v.forest call) a s.1.why → Halted v.forest n (call ∷ calls) refuses (Some s.1.why)
    go (Becomes g) e h = inl (h.no_alloc, runs_out_here v.forest n call calls (subst IsAccepted (sym e) tt) h.takes_memory)
    go (Rejects misfit) e h = inr (n, misfit, ap (λ a. elim a [ Becomes g ↦ forest_from g (n + 1) calls | Rejects misfit ↦ RefusedAt n misfit ]) e, h)
stopped_halts (call ∷ calls) refuses old new n v fresh (inr s) =
    go (take v.forest call) refl (λ w e k. stopped_halts calls refuses old new (n + 1) w e k) s.0 s.1
  where
    go : (a : CaptureAnswer) → take v.forest call ≡ a
        → ((w : Capture) → w.refusal ≡ None → StoppedIn capture_law old new w calls refuses → Halted w.forest (n + 1) calls refuses new.view.refusal)
        → IsAccepted a → StoppedIn capture_law old new (record { forest = forest_by a v.forest; refusal = v.refusal; wants = v.wants }) calls refuses
        → Halted v.forest n (call ∷ calls) refuses new.view.refusal
    go (Becomes g) e rest t k = halted_later v.forest g n call calls refuses new.view.refusal e (rest (record { forest = g; refusal = v.refusal; wants = v.wants }) fresh k)
    go (Rejects misfit) e rest t k = absurd t

-- ---- a value

pub collected : (e : Emission) (first last : Capture) → first ≡ no_calls 0 → Streams capture_law (capture_standing first) e (capture_standing last) → IsCaptured e last
collected e first last new s =
    let ran = ran_holds e.calls 1 (no_calls 0) last (subst (λ (c : Capture). Ran capture_law c e.calls last) new s.ran) in
    record { willing = s.willing; taken = ran.0; no_refusal = ran.1; wants = s.wants ∙ ap (λ (c : Capture). c.wants) new }

no_alloc_cause : (e : Emission) (why : ErrorKind) → IsNoAlloc why → RunsOut e.calls → IsCollectCause e why
no_alloc_cause e (error.NoAlloc method) h out = out
no_alloc_cause e (error.Unsupported actual expected) h out = absurd h
no_alloc_cause e (error.InvalidValue reason) h out = absurd h
no_alloc_cause e (error.OutsideContainer method) h out = absurd h

refusal_cause : (e : Emission) (at : ℕ) (refusal : Misfit) → forest e.calls ≡ RefusedAt at refusal → IsCollectCause e (error_of refusal)
refusal_cause e at Unbalanced h = (at, h)
refusal_cause e at OutsideText h = (at, h)
refusal_cause e at OutsideBinary h = (at, h)

halted_cause : (e : Emission) (o : Option ErrorKind) → Halted empty_forest 1 e.calls e.refuses o → IsCollectCause e (cause_by o)
halted_cause e None h = h
halted_cause e (Some why) (inl h) = no_alloc_cause e why h.0 h.1
halted_cause e (Some why) (inr h) = subst (IsCollectCause e) (sym h.3) (refusal_cause e h.0 h.1 h.2)

pub collect_cause : (e : Emission) (first last : Capture) → first ≡ no_calls 0 → Stops capture_law (capture_standing first) e (capture_standing last) → IsCollectCause e (cause_by last.refusal)
collect_cause e first last new s =
    let stopped = subst (λ (c : Capture). StoppedIn capture_law (capture_standing c) (capture_standing last) c e.calls e.refuses) new s.stopped in
    halted_cause e last.refusal (stopped_halts e.calls e.refuses (capture_standing (no_calls 0)) (capture_standing last) 1 (no_calls 0) refl stopped)

holds_same : (calls : List Call) (f g : Forest) → forest calls ≡ Holds f → forest calls ≡ Holds g → f ≡ g
holds_same calls f g h k = let same : Holds f ≡ Holds g = sym h ∙ k in cc same

pub keeps_tree : (e : Emission) (f : Forest) → forest e.calls ≡ Holds f → KeepsTree e f
keeps_tree e f h tree spells =
    let (g, kept) = capture_keeps e.calls tree spells in
    subst (λ x. SpellsAgain x tree) (holds_same e.calls g f kept.taken h) (record { spells = kept.spells; no_spine = kept.no_spine; complete = kept.complete })

not_refused : (e : Emission) (f : Forest) (at : ℕ) (refusal : Misfit) → forest e.calls ≡ Holds f → forest e.calls ≡ RefusedAt at refusal → ⊥
not_refused e f at refusal h k = let same : Holds f ≡ RefusedAt at refusal = sym h ∙ k in cc same

-- a willing value that spells a tree is refused for want of memory alone
pub only_no_alloc : (e : Emission) (tree : Tree) (why : ErrorKind) → e.refuses ≡ false → Spells e.calls tree → IsCollectCause e why → IsNoAlloc why
only_no_alloc e tree why willing spells cause = let (f, kept) = capture_keeps e.calls tree spells in go f kept.taken why cause
  where
    go : (f : Forest) → forest e.calls ≡ Holds f → (w : ErrorKind) → IsCollectCause e w → IsNoAlloc w
    go f h (error.NoAlloc method) c = tt
    go f h (error.OutsideContainer word.Text) c = not_refused e f c.0 OutsideText h c.1
    go f h (error.OutsideContainer word.Binary) c = not_refused e f c.0 OutsideBinary h c.1
    go f h (error.InvalidValue word.Unbalanced) c = not_refused e f c.0 Unbalanced h c.1
    go f h (error.InvalidValue word.FailedToStream) c = let never : true ≡ false = sym c.0 ∙ willing in cc never
    go f h w c = absurd c
