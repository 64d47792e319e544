-- What calls leave of a buffer that are made one by one.
use Rattle.std.specs.Prelude.{◌≡◌, ℕ, ◌+◌, ◌⊎◌, Bool, true, false, List, [], ◌∷◌, ◌++◌, map, Option, Some, None, refl}
use Rattle.std.proofs.Common.{sym, ap, ◌∙◌, subst, inl, inr}
use Rattle.sval_label.specs.Calls.{Call}
use Rattle.sval_core.specs.Trees.{Tree}
use Rattle.sval_core.specs.Spells.{Spells}
use Rattle.sval_core.specs.Law.{Standing}
use Rattle.sval_buffer.specs.Forest.{Forest, CaptureAnswer, Becomes, Rejects, Holds, RefusedAt, empty_forest, take, forest, forest_from}
use Rattle.sval_buffer.specs.Capture.{Capture, no_calls, IsAccepted, forest_by, capture_law, capture_standing}
use Rattle.sval_buffer.specs.CapturedValues.{SpellsAgain}
use Rattle.sval_buffer.specs.MadeCalls.{Made, taken_call, refused_call, AnswersMade, AnswersEach, if_taken, taken_calls, StandsAfter, LastRefused}
use Rattle.sval_buffer.specs.declared.error.ErrorKind.{ErrorKind}
use Rattle.sval_buffer.proofs.Collecting.{keeps_tree}

-- the number of the next call, counted among those that were taken
abbrev next_number : Bool → ℕ → ℕ
next_number true n = n + 1
next_number false n = n

-- one call in front, whether it was taken or refused
left_by_one : (is : Bool) (call : Call) (later : List Call) (n : ℕ) (old next : Standing Capture) (f : Forest) → AnswersMade capture_law old is call next
    → forest_from next.view.forest (next_number is n) later ≡ Holds f → forest_from old.view.forest n (if_taken is call later) ≡ Holds f
unfolding forest_from
left_by_one true call later n old next f answer rest = go (take old.view.forest call) answer.accepted (ap (λ (c : Capture). c.forest) answer.view)
  where
    go : (a : CaptureAnswer) → IsAccepted a → next.view.forest ≡ forest_by a old.view.forest
        → elim a [ Becomes g ↦ forest_from g (n + 1) later | Rejects misfit ↦ RefusedAt n misfit ] ≡ Holds f
    go (Becomes g) accepted is = subst (λ g. forest_from g (n + 1) later ≡ Holds f) is rest
    go (Rejects misfit) accepted is = absurd accepted
left_by_one false call later n old next f answer rest = subst (λ g. forest_from g n later ≡ Holds f) answer.left.forest rest

left_by_all : (made : List Made) (n : ℕ) (old new : Standing Capture) → AnswersEach capture_law old made new → forest_from old.view.forest n (taken_calls made) ≡ Holds new.view.forest
unfolding forest_from
left_by_all [] n old new e = ap (λ (s : Standing Capture). Holds s.view.forest) (sym e)
left_by_all (made ∷ later) n old new r =
    left_by_one made.taken made.call (taken_calls later) n old r.0 new.view.forest r.1 (left_by_all later (next_number made.taken n) r.0 new r.2)

pub holds_taken : (made : List Made) (new : Standing Capture) → StandsAfter made new → forest (taken_calls made) ≡ Holds new.view.forest
holds_taken made new stands = left_by_all made 1 (capture_standing (no_calls stands.0)) new stands.1

pub keeps_taken : (made : List Made) (new : Standing Capture) (tree : Tree) → StandsAfter made new → Spells (taken_calls made) tree → SpellsAgain new.view.forest tree
keeps_taken made new tree stands = keeps_tree (record { calls = taken_calls made; refuses = false }) new.view.forest (holds_taken made new stands) tree

-- all calls were taken, and the last refusal is the old one; or it is that of a call among them
abbrev Kept : Forest → ℕ → List Made → Option ErrorKind → Option ErrorKind → Type 0
Kept start n made before now = ((made ≡ map taken_call (taken_calls made)) × (now ≡ before)) ⊎ ((why : ErrorKind) × (now ≡ Some why) × LastRefused start n made why)

-- one call in front of those of which one was refused
refused_later : (is : Bool) (call : Call) (later : List Made) (n : ℕ) (old next : Standing Capture) (why : ErrorKind) → AnswersMade capture_law old is call next
    → LastRefused next.view.forest (next_number is n) later why → LastRefused old.view.forest n (record { call = call; taken = is } ∷ later) why
refused_later is call later n old next why answer last = record {
  before = record { call = call; taken = is } ∷ last.before;
  call = last.call;
  later = last.later;
  made_are = ap (λ (ms : List Made). record { call = call; taken = is } ∷ ms) last.made_are;
  held = last.held;
  before_leave = left_by_one is call (taken_calls last.before) n old next last.held answer last.before_leave;
  cause = last.cause;
}

-- a refused call in front of those that were all taken
refused_here : (call : Call) (later : List Made) (n : ℕ) (old next : Standing Capture) (answer : AnswersMade capture_law old false call next) → later ≡ map taken_call (taken_calls later)
    → LastRefused old.view.forest n (refused_call call ∷ later) answer.left.why
unfolding forest_from
refused_here call later n old next answer all = record {
  before = [];
  call = call;
  later = taken_calls later;
  made_are = ap (λ (ms : List Made). refused_call call ∷ ms) all;
  held = old.view.forest;
  before_leave = refl;
  cause = answer.left.cause;
}

kept_by_one : (is : Bool) (call : Call) (later : List Made) (n : ℕ) (old next : Standing Capture) (now : Option ErrorKind) → AnswersMade capture_law old is call next
    → Kept next.view.forest (next_number is n) later next.view.refusal now → Kept old.view.forest n (record { call = call; taken = is } ∷ later) old.view.refusal now
kept_by_one true call later n old next now answer (inl all) =
    inl (ap (λ (ms : List Made). taken_call call ∷ ms) all.0, all.1 ∙ ap (λ (c : Capture). c.refusal) answer.view)
kept_by_one false call later n old next now answer (inl all) =
    inr (answer.left.why, all.1 ∙ answer.left.refusal, refused_here call later n old next answer all.0)
kept_by_one is call later n old next now answer (inr kept) = inr (kept.0, kept.1, refused_later is call later n old next kept.0 answer kept.2)

kept_by_all : (made : List Made) (n : ℕ) (old new : Standing Capture) → AnswersEach capture_law old made new → Kept old.view.forest n made old.view.refusal new.view.refusal
kept_by_all [] n old new e = inl (refl, ap (λ (s : Standing Capture). s.view.refusal) e)
kept_by_all (made ∷ later) n old new r =
    kept_by_one made.taken made.call later n old r.0 new.view.refusal r.1 (kept_by_all later (next_number made.taken n) r.0 new r.2)

pub keeps_cause : (made : List Made) (new : Standing Capture) (why : ErrorKind) → StandsAfter made new → new.view.refusal ≡ Some why → LastRefused empty_forest 1 made why
keeps_cause made new why stands is = go (kept_by_all made 1 (capture_standing (no_calls stands.0)) new stands.1)
  where
    go : Kept empty_forest 1 made None new.view.refusal → LastRefused empty_forest 1 made why
    go (inl all) = let never : Some why ≡ None = sym is ∙ all.1 in cc never
    go (inr kept) = let same : Some kept.0 ≡ Some why = sym kept.1 ∙ is in subst (λ w. LastRefused empty_forest 1 made w) (cc same) kept.2
