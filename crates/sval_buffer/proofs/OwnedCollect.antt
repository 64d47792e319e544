-- What a buffer that keeps copies answers to all the calls of a value: what a buffer answers to them with computed fragments.
use Rattle.std.specs.Prelude.{◌≡◌, ℕ, ◌+◌, ◌≤◌, ◌⊎◌, Bool, true, false, List, [], ◌∷◌, map, refl}
use Rattle.std.proofs.Common.{sym, ap, ◌∙◌, subst, inl, inr}
use Rattle.sval_label.specs.Calls.{Call}
use Rattle.sval_core.specs.Trees.{Tree}
use Rattle.sval_core.specs.Spells.{Spells}
use Rattle.sval_core.specs.Law.{Standing, Emission, Rose, HasCause, Ran, Streams, StoppedIn, Stops, computed}
use Rattle.sval_buffer.specs.Forest.{Forest, CaptureAnswer, Becomes, Rejects, Misfit, Captured, Holds, RefusedAt, Unbalanced, OutsideText, OutsideBinary, empty_forest, take, may_grow, forest, forest_from}
use Rattle.sval_buffer.specs.declared.error.Word.TheVariants as word
use Rattle.sval_buffer.specs.declared.error.ErrorKind.{ErrorKind}
use Rattle.sval_buffer.specs.declared.error.ErrorKind.TheVariants as error
use Rattle.sval_buffer.specs.Capture.{Capture, no_calls, IsNoAlloc, IsAccepted, forest_by, IsCaptureCause, IsCaptureLeft, capture_law, capture_standing}
use Rattle.sval_buffer.specs.Owned.{owned, owned_answer, take_owned, owning_law}
use Rattle.sval_buffer.specs.CapturedValues.{IsCollectCause, IsCapturedOwned, IsOwnedCause, KeepsTree, cause_by}
use Rattle.sval_buffer.proofs.Collecting.{collected, collect_cause, keeps_tree, only_no_alloc}
use Rattle.sval_buffer.proofs.OwnedCapture.{owned_keeps_tree}
use Rattle.sval_buffer.proofs.OwnedSteps.{takes_owned, takes_computed, grows_alike}

-- ---- the same calls with computed fragments

abbrev computed_calls : Emission → Emission
computed_calls e = record { calls = map computed e.calls; refuses = e.refuses }

abbrev owned_captured : Captured → Captured
owned_captured (Holds f) = Holds (owned f)
owned_captured (RefusedAt n misfit) = RefusedAt n misfit

answers_alike : (f g : Forest) (call : Call) → owned f ≡ owned g → owned_answer (take f (computed call)) ≡ owned_answer (take g call)
answers_alike f g call e = sym (takes_computed f call) ∙ ap (λ x. take_owned x call) e ∙ takes_owned g call

captured_alike : (calls : List Call) (n : ℕ) (f g : Forest) → owned f ≡ owned g → owned_captured (forest_from f n (map computed calls)) ≡ owned_captured (forest_from g n calls)
unfolding forest_from
captured_alike [] n f g e = ap Holds e
captured_alike (call ∷ calls) n f g e = go (take f (computed call)) (take g call) (answers_alike f g call e) (λ x y k. captured_alike calls (n + 1) x y k)
  where
    go : (a b : CaptureAnswer) → owned_answer a ≡ owned_answer b
        → ((x y : Forest) → owned x ≡ owned y → owned_captured (forest_from x (n + 1) (map computed calls)) ≡ owned_captured (forest_from y (n + 1) calls))
        → owned_captured (elim a [ Becomes x ↦ forest_from x (n + 1) (map computed calls) | Rejects misfit ↦ RefusedAt n misfit ])
        ≡ owned_captured (elim b [ Becomes y ↦ forest_from y (n + 1) calls | Rejects misfit ↦ RefusedAt n misfit ])
    go (Becomes x) (Becomes y) k rest = rest x y (cc k)
    go (Becomes x) (Rejects misfit) k rest = cc k
    go (Rejects misfit) (Becomes y) k rest = cc k
    go (Rejects misfit) (Rejects other) k rest = let same : misfit ≡ other = cc k in ap (RefusedAt n) same

-- the calls as they are leave a forest with the same copies
record HoldsAlike (calls : List Call) (f : Forest) : Type 0 where
  held : Forest
  taken : forest calls ≡ Holds held
  copies : owned f ≡ owned held

holds_alike : (calls : List Call) (f : Forest) → forest (map computed calls) ≡ Holds f → HoldsAlike calls f
holds_alike calls f e = go (forest calls) refl (ap owned_captured (sym e) ∙ captured_alike calls 1 empty_forest empty_forest refl)
  where
    go : (c : Captured) → forest calls ≡ c → Holds (owned f) ≡ owned_captured c → HoldsAlike calls f
    go (Holds g) k same = record { held = g; taken = k; copies = cc same }
    go (RefusedAt n misfit) k same = absurd (cc same)

refused_alike : (calls : List Call) (at : ℕ) (misfit : Misfit) → forest (map computed calls) ≡ RefusedAt at misfit → forest calls ≡ RefusedAt at misfit
refused_alike calls at misfit e = go (forest calls) refl (ap owned_captured (sym e) ∙ captured_alike calls 1 empty_forest empty_forest refl)
  where
    go : (c : Captured) → forest calls ≡ c → RefusedAt at misfit ≡ owned_captured c → forest calls ≡ RefusedAt at misfit
    go (Holds g) k same = absurd (cc same)
    go (RefusedAt n other) k same = k ∙ sym same

-- ---- what the buffer did

-- this buffer, with another forest
abbrev over : Forest → Capture → Capture
over f v = record { forest = f; refusal = v.refusal; wants = v.wants }

abbrev after_owned : Capture → Call → Capture
after_owned v call = record { forest = forest_by (take_owned v.forest call) v.forest; refusal = v.refusal; wants = v.wants }

-- it ran as a buffer does that is told of computed fragments
record RanPlain (v u : Capture) (f : Forest) (calls : List Call) : Type 0 where
  last : Forest
  copies : u.forest ≡ owned last
  ran : Ran capture_law (over f v) (map computed calls) (over last u)

-- the same after one call more, by its answer
record RanAfter (answer : CaptureAnswer) (v u : Capture) (f : Forest) (calls : List Call) : Type 0 where
  last : Forest
  copies : u.forest ≡ owned last
  accepted : IsAccepted answer
  ran : Ran capture_law (over (forest_by answer f) v) (map computed calls) (over last u)

takes_over : (v : Capture) (f : Forest) (call : Call) → v.forest ≡ owned f → take_owned v.forest call ≡ owned_answer (take f (computed call))
takes_over v f call same = ap (λ x. take_owned x call) same ∙ takes_computed f call

ran_plain : (calls : List Call) (f : Forest) (v u : Capture) → v.forest ≡ owned f → Ran owning_law v calls u → RanPlain v u f calls
ran_plain [] f v u same e = record { last = f; copies = ap (λ (c : Capture). c.forest) e ∙ same; ran = ap (over f) e }
ran_plain (call ∷ calls) f v u same r =
    let after = go (take f (computed call)) (takes_over v f call same) (λ g k. ran_plain calls g (after_owned v call) u k r.1) in
    record { last = after.last; copies = after.copies; ran = (after.accepted, after.ran) }
  where
    go : (a : CaptureAnswer) → take_owned v.forest call ≡ owned_answer a → ((g : Forest) → (after_owned v call).forest ≡ owned g → RanPlain (after_owned v call) u g calls) → RanAfter a v u f calls
    go (Becomes g) e rest = let p = rest g (ap (λ x. forest_by x v.forest) e) in record { last = p.last; copies = p.copies; accepted = tt; ran = p.ran }
    go (Rejects misfit) e rest = absurd (subst IsAccepted e r.0)

-- where it stands, with another forest
abbrev standing_over : Forest → Standing Capture → Standing Capture
standing_over f s = record { view = over f s.view; faults = s.faults; wants = s.wants }

-- it stopped as a buffer does that is told of computed fragments
record StoppedPlain (old new : Standing Capture) (v : Capture) (f : Forest) (calls : List Call) (refuses : Bool) : Type 0 where
  last : Forest
  stopped : StoppedIn capture_law old (standing_over last new) (over f v) (map computed calls) refuses

-- the same after one call more, by its answer
record StoppedAfter (answer : CaptureAnswer) (old new : Standing Capture) (v : Capture) (f : Forest) (calls : List Call) (refuses : Bool) : Type 0 where
  last : Forest
  accepted : IsAccepted answer
  stopped : StoppedIn capture_law old (standing_over last new) (over (forest_by answer f) v) (map computed calls) refuses

accepted_owned : (a : CaptureAnswer) → IsAccepted a → IsAccepted (owned_answer a)
accepted_owned (Becomes f) h = tt
accepted_owned (Rejects misfit) h = absurd h

cause_owned : (a : CaptureAnswer) (grows : Bool) (why : ErrorKind) → IsCaptureCause grows (owned_answer a) why → IsCaptureCause grows a why
cause_owned (Becomes f) grows why h = h
cause_owned (Rejects misfit) grows why h = h

cause_plain : (f : Forest) (v : Capture) (call : Call) (old new : Standing Capture) (last : Forest) → v.forest ≡ owned f → HasCause owning_law v call old new
    → HasCause capture_law (over f v) (computed call) old (standing_over last new)
cause_plain f v call old new last same (inl refuses) = inl (λ t. refuses (subst IsAccepted (sym (takes_over v f call same)) (accepted_owned (take f (computed call)) t)))
cause_plain f v call old new last same (inr rose) = inr rose

left_plain : (f : Forest) (v left : Capture) (call : Call) → v.forest ≡ owned f → IsCaptureLeft (may_grow v.forest (computed call)) (take_owned v.forest call) v left
    → IsCaptureLeft (may_grow f (computed call)) (take f (computed call)) (over f v) (over f left)
left_plain f v left call same h = record {
  forest = refl;
  why = h.why;
  refusal = h.refusal;
  cause = cause_owned (take f (computed call)) (may_grow f (computed call)) h.why
      (subst (λ grows. IsCaptureCause grows (owned_answer (take f (computed call))) h.why) (ap (λ x. may_grow x (computed call)) same ∙ grows_alike f call)
      (subst (λ a. IsCaptureCause (may_grow v.forest (computed call)) a h.why) (takes_over v f call same) h.cause));
  wants = h.wants;
}

stopped_plain : (calls : List Call) (refuses : Bool) (old new : Standing Capture) (f : Forest) (v : Capture) → v.forest ≡ owned f → StoppedIn owning_law old new v calls refuses
    → StoppedPlain old new v f calls refuses
stopped_plain [] refuses old new f v same s = record { last = f; stopped = (s.0, ap (over f) s.1) }
stopped_plain (call ∷ calls) refuses old new f v same (inl s) =
    record { last = f; stopped = inl (cause_plain f v call old new f same s.0, left_plain f v new.view call same s.1) }
stopped_plain (call ∷ calls) refuses old new f v same (inr s) =
    let after = go (take f (computed call)) (takes_over v f call same) (λ g k. stopped_plain calls refuses old new g (after_owned v call) k s.1) in
    record { last = after.last; stopped = inr (after.accepted, after.stopped) }
  where
    go : (a : CaptureAnswer) → take_owned v.forest call ≡ owned_answer a
        → ((g : Forest) → (after_owned v call).forest ≡ owned g → StoppedPlain old new (after_owned v call) g calls refuses) → StoppedAfter a old new v f calls refuses
    go (Becomes g) e rest = let p = rest g (ap (λ x. forest_by x v.forest) e) in record { last = p.last; accepted = tt; stopped = p.stopped }
    go (Rejects misfit) e rest = absurd (subst IsAccepted e s.0)

-- ---- a value

pub collected_owned : (e : Emission) (first last : Capture) → first ≡ no_calls 0 → Streams owning_law (capture_standing first) e (capture_standing last) → IsCapturedOwned e last
collected_owned e first last new s =
    let p = ran_plain e.calls empty_forest (no_calls 0) last refl (subst (λ (c : Capture). Ran owning_law c e.calls last) new s.ran) in
    let all : Streams capture_law (capture_standing (no_calls 0)) (computed_calls e) (capture_standing (over p.last last)) =
    record { willing = s.willing; ran = p.ran; faults = s.faults; wants = s.wants ∙ ap (λ (c : Capture). c.wants) new } in
    let plain = collected (computed_calls e) (no_calls 0) (over p.last last) refl all in
    let alike = holds_alike e.calls p.last plain.taken in
    record { willing = s.willing; held = alike.held; taken = alike.taken; copies = p.copies ∙ alike.copies; no_refusal = plain.no_refusal; wants = plain.wants }

owned_cause : (e : Emission) (why : ErrorKind) → IsCollectCause (computed_calls e) why → IsOwnedCause e why
owned_cause e (error.NoAlloc method) c = c
owned_cause e (error.OutsideContainer word.Text) c = (c.0, refused_alike e.calls c.0 OutsideText c.1)
owned_cause e (error.OutsideContainer word.Binary) c = (c.0, refused_alike e.calls c.0 OutsideBinary c.1)
owned_cause e (error.InvalidValue word.Unbalanced) c = (c.0, refused_alike e.calls c.0 Unbalanced c.1)
owned_cause e (error.InvalidValue word.FailedToStream) c = let alike = holds_alike e.calls c.1.0 c.1.1 in (c.0, (alike.held, alike.taken))
owned_cause e why c = absurd c

pub owning_cause : (e : Emission) (first last : Capture) → first ≡ no_calls 0 → Stops owning_law (capture_standing first) e (capture_standing last) → IsOwnedCause e (cause_by last.refusal)
owning_cause e first last new s =
    let stopped = subst (λ (c : Capture). StoppedIn owning_law (capture_standing c) (capture_standing last) c e.calls e.refuses) new s.stopped in
    let p = stopped_plain e.calls e.refuses (capture_standing (no_calls 0)) (capture_standing last) empty_forest (no_calls 0) refl stopped in
    let all : Stops capture_law (capture_standing (no_calls 0)) (computed_calls e) (capture_standing (over p.last last)) =
    record { stopped = p.stopped; faults = s.faults; wants = subst (λ (c : Capture). c.wants ≤ last.wants) new s.wants } in
    owned_cause e (cause_by last.refusal) (collect_cause (computed_calls e) (no_calls 0) (over p.last last) refl all)

pub owned_tree : (e : Emission) (buffer : Capture) → IsCapturedOwned e buffer → KeepsTree e buffer.forest
owned_tree e buffer c = subst (KeepsTree e) (sym c.copies) (owned_keeps_tree e c.held (keeps_tree e c.held c.taken))

-- a willing value that spells a tree is refused for want of memory alone
pub only_no_memory : (e : Emission) (tree : Tree) (why : ErrorKind) → e.refuses ≡ false → Spells e.calls tree → IsOwnedCause e why → IsNoAlloc why
only_no_memory e tree (error.NoAlloc method) willing spells c = tt
only_no_memory e tree why willing spells c = only_no_alloc e tree why willing spells c
