-- The lists of calls that what is kept of many trees in a row stands for.
use Rattle.std.specs.Prelude.{◌≡◌, ℕ, ◌+◌, if◌then◌else◌, Bool, true, false, List, [], ◌∷◌, ◌++◌, length, map, Option, Some, None, is_some, option_map, refl}
use Rattle.std.proofs.Common.{sym, ap, ◌∙◌, arith, length-append}
use Rattle.std.proofs.lemmas.List.{map-append}
use Rattle.sval_label.specs.Calls.{Call}
use Rattle.sval_core.specs.Law.{one_more}
use Rattle.sval_core.specs.Checker.{Frame, State}
use Rattle.sval_core.specs.CheckerSteps.{next, goes_on, is_whole_tree, before_call, progress, next_of_list}
use Rattle.sval_core.specs.ManyChecker as all
use Rattle.sval_core.specs.ManyChecker.{ready, Progress, kept_all}
use Rattle.sval_core.proofs.CheckerSteps.{some_mapped}
use Rattle.sval_core.proofs.ManySteps.{next_of_list_is_viable}
use Rattle.sval_check.specs.ManyChecks.{as_kept}
use Rattle.sval_check.specs.Listing.{Listed, nothing_listed, before_next, led_to, listed_after, listing_law}
use Rattle.sval_check.proofs.CallsSoFar.{IsKept}

-- no call was refused, and the machine for lists took these calls and stands where this is kept
pub record ListsSoFar (l : Listed) (calls : List Call) : Type 0 where
  pub now : Progress
  pub runs : kept_all calls now
  pub state : l.state ≡ before_call now
  pub ends : l.ends ≡ map as_kept now.ends
  pub taken : l.taken ≡ as_kept (length calls)
  pub willing : l.why ≡ None

pub none_listed : ListsSoFar nothing_listed []
none_listed = record { now = record { filled = false; frames = []; ends = [] }; runs = all.done; state = refl; ends = refl; taken = refl; willing = refl }

-- ---- a call that goes on

-- where the machine for lists stands after a call that led to this state
record Onward (number : ℕ) (now : Progress) (call : Call) (s : State) : Type 0 where
  after : Progress
  goes : next_of_list number now call ≡ Some after
  state : before_next s ≡ before_call after
  ends : after.ends ≡ (if is_whole_tree s then now.ends ++ (number ∷ []) else now.ends)

pub never_whole : (now : Progress) → is_whole_tree (before_call now) ≡ false
never_whole now = by_frames now.frames
  where
    by_frames : (fs : List Frame) → is_whole_tree (record { filled = ready now.filled fs; frames = fs }) ≡ false
    by_frames [] = refl
    by_frames (f ∷ fs) = refl

once_ready : (now : Progress) → before_next (before_call now) ≡ before_call now
once_ready now = by_frames now.frames
  where
    by_frames : (fs : List Frame) → before_next (record { filled = ready now.filled fs; frames = fs }) ≡ record { filled = ready now.filled fs; frames = fs }
    by_frames [] = refl
    by_frames (f ∷ fs) = refl

onward : (number : ℕ) (now : Progress) (call : Call) (s : State) → next (before_call now) call ≡ Some s → Onward number now call s
onward number now (Call.TagHint tag) s e =
    let same : before_call now ≡ s = cc e in
    record {
      after = now;
      goes = refl;
      state = ap before_next (sym same) ∙ once_ready now;
      ends = ap (λ b. if b then now.ends ++ (number ∷ []) else now.ends) (sym (never_whole now) ∙ ap is_whole_tree same);
    }
onward number now call s e = record { after = progress number now.ends s; goes = ap (λ o. option_map (progress number now.ends) o) e; state = refl; ends = refl }

one_kept : (n taken : ℕ) → taken ≡ as_kept n → one_more taken ≡ as_kept (n + 1)
one_kept n taken e = omega (arith, e)

one_longer : (calls : List Call) (call : Call) → length (calls ++ (call ∷ [])) ≡ length calls + 1
one_longer calls call = omega (arith, length-append calls (call ∷ []))

kept_ends : (b : Bool) (ends kept : List ℕ) (number n : ℕ) → kept ≡ map as_kept ends → n ≡ as_kept number
    → (if b then kept ++ (n ∷ []) else kept) ≡ map as_kept (if b then ends ++ (number ∷ []) else ends)
kept_ends true ends kept number n e f = ap (λ xs. xs ++ (n ∷ [])) e ∙ ap (λ x. map as_kept ends ++ (x ∷ [])) f ∙ sym (map-append as_kept ends (number ∷ []))
kept_ends false ends kept number n e f = e

led : (l : Listed) (calls : List Call) (call : Call) (s : State) → ListsSoFar l calls → next l.state call ≡ Some s → ListsSoFar (led_to s l) (calls ++ (call ∷ []))
led l calls call s so_far e =
    let number = length calls + 1 in
    let now = so_far.now in
    let step = onward number now call s (ap (λ (x : State). next x call) (sym so_far.state) ∙ e) in
    let kept : one_more l.taken ≡ as_kept number = one_kept (length calls) l.taken so_far.taken in
    record {
      now = step.after;
      runs = (next_of_list_is_viable calls call now step.after so_far.runs step.goes).1;
      state = step.state;
      ends = kept_ends (is_whole_tree s) now.ends l.ends number (one_more l.taken) so_far.ends kept ∙ ap (map as_kept) (sym step.ends);
      taken = kept ∙ ap as_kept (sym (one_longer calls call));
      willing = so_far.willing;
    }

pub listed_more : (l : Listed) (calls : List Call) (call : Call) → ListsSoFar l calls → goes_on l.state call ≡ true → ListsSoFar (listed_after l call) (calls ++ (call ∷ []))
listed_more l calls call so_far goes = by_next (next l.state call) refl
  where
    by_next : (o : Option State) → next l.state call ≡ o → ListsSoFar (listed_after l call) (calls ++ (call ∷ []))
    by_next None e = let never : true ≡ false = sym goes ∙ ap (λ (o : Option State). is_some o) e in absurd (cc never)
    by_next (Some s) e = rw e (led l calls call s so_far e)

-- ---- a call that doesn't

pub goes_of_list : (number : ℕ) (now after : Progress) (call : Call) → next_of_list number now call ≡ Some after → is_some (next (before_call now) call) ≡ true
goes_of_list number now after (Call.TagHint tag) e = refl
goes_of_list number now after call e =
    let w = some_mapped (progress number now.ends) (next (before_call now) call) after e in ap (λ (o : Option State). is_some o) w.1

pub listed_all : IsKept listing_law ListsSoFar
listed_all l calls call so_far goes = listed_more l calls call so_far goes.viable
