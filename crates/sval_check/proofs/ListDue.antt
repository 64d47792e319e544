-- The answer that is due to a value that is checked for many trees comes, or want of memory.
use Rattle.std.specs.Prelude.{◌≡◌, ◌⊎◌, ℕ, ◌+◌, true, false, List, [], ◌∷◌, ◌++◌, length, Option, Some, is_none, Ok, Err, IfOk, refl}
use Rattle.std.proofs.Common.{sym, ap, ◌∙◌, subst, arith, inl, inr}
use Rattle.sval_label.specs.Calls.{Call}
use Rattle.sval_core.specs.Law.{Emission, Streams, Stops, one_more}
use Rattle.sval_core.specs.Many.{IsNoHint}
use Rattle.sval_core.specs.Checker.{Frame, State}
use Rattle.sval_core.specs.Stacks.{top_of}
use Rattle.sval_core.specs.CheckerSteps.{goes_on, state_after, is_whole_tree, before_call}
use Rattle.sval_core.specs.ManyChecker.{is_whole_value, Progress}
use Rattle.sval_core.proofs.ManyTaken.{taken_list_is_viable, ends_with_trees, trees_end}
use Rattle.sval_core.proofs.ManySteps.{viable_is_next_of_list}
use Rattle.sval_check.specs.declared.error.CheckError.TheVariants as error
use Rattle.sval_check.specs.declared.machine.Refusal.{Refusal}
use Rattle.sval_check.specs.declared.machine.Refusal.TheVariants.{NotViable, NoMemory}
use Rattle.sval_check.specs.Checks.{has_own_end}
use Rattle.sval_check.specs.ManyChecks.{as_kept, AreValues, IsFirstBadOfList, OnlyRefusesList, IsUnfinishedList, EndsTree, NeedsMemoryOfList, ListAnswer, IsDueOfList}
use Rattle.sval_check.specs.Listing.{Listed, nothing_listed, listed_standing, listing_law, IsStopFor, IsListedRefusal}
use Rattle.sval_check.specs.Checking.{stop_by}
use Rattle.sval_check.proofs.DueOrWant.{IsDueOrWant}
use Rattle.sval_check.proofs.CallsSoFar.{all_so_far, StopsAfterAll, StopsAt, stops}
use Rattle.sval_check.proofs.ListsSoFar.{ListsSoFar, none_listed, listed_more, listed_all, never_whole, goes_of_list}

-- ---- an answer that is due, or want of memory where it may come

abbrev pub IsListAnswer : Emission → ListAnswer → Type 0
IsListAnswer e result = IsDueOrWant (IsDueOfList e) (NeedsMemoryOfList e.calls) result

pub list_ok : (e : Emission) (result : ListAnswer) → IsListAnswer e result → IfOk result (λ ends. AreValues e ends)
list_ok e (Ok ends) (inl is) = is
list_ok e (Ok ends) (inr is) = absurd (cc is.0)
list_ok e (Err error) a = tt

-- ---- all calls were taken

none_open : (fs : List Frame) → is_none (top_of fs) ≡ true → fs ≡ []
none_open [] e = refl
none_open (f ∷ fs) e = absurd (cc e)

some_open : (fs : List Frame) → is_none (top_of fs) ≡ false → fs ≡ [] → ⊥
some_open [] e same = absurd (cc e)
some_open (f ∷ fs) e same = cc same

same_frames : {l : Listed} {calls : List Call} (so_far : ListsSoFar l calls) → l.state.frames ≡ so_far.now.frames
same_frames so_far = ap (λ (s : State). s.frames) so_far.state

all_listed : (e : Emission) (first last : Listed) → first ≡ nothing_listed → Streams listing_law (listed_standing first) e (listed_standing last) → ListsSoFar last e.calls
all_listed e first last new s = all_so_far listing_law ListsSoFar listed_all first last [] e.calls (subst (λ (l : Listed). ListsSoFar l []) (sym new) none_listed) s.ran

pub closed_is_due : (e : Emission) (first last : Listed) → first ≡ nothing_listed → Streams listing_law (listed_standing first) e (listed_standing last)
    → is_none (top_of last.state.frames) ≡ true → IsListAnswer e (Ok last.ends)
closed_is_due e first last new s none =
    let so_far = all_listed e first last new s in
    let t = ends_with_trees e.calls so_far.now so_far.runs (sym (same_frames so_far) ∙ none_open last.state.frames none) in
    inl (record { willing = s.willing; trees = t.0; ends = so_far.now.ends; spells = t.1; end_there = t.2; are_kept = so_far.ends })

pub open_is_due : (e : Emission) (first last : Listed) → first ≡ nothing_listed → Streams listing_law (listed_standing first) e (listed_standing last)
    → is_none (top_of last.state.frames) ≡ false → IsListAnswer e (Err error.Unfinished)
open_is_due e first last new s some =
    let so_far = all_listed e first last new s in
    inl (record {
      viable = taken_list_is_viable e.calls so_far.now so_far.runs;
      willing = s.willing;
      no_trees = λ trees spells. some_open last.state.frames some (same_frames so_far ∙ trees_end e.calls so_far.now so_far.runs trees spells);
    })

-- ---- a call was refused, or the value itself refused

stopped_none : (e : Emission) (last : Listed) → StopsAfterAll ListsSoFar [] e.calls e.refuses last → IsListAnswer e (Err (stop_by last.why last.taken))
stopped_none e last r =
    subst (λ (why : Option Refusal). IsListAnswer e (Err (stop_by why last.taken))) (sym r.so_far.willing)
    (inl (record { viable = taken_list_is_viable e.calls r.so_far.now r.so_far.runs; refuses = r.refused }))

-- a call after which a whole tree stands is no hint
hint_or_none : (call : Call) (now : Progress) (s : State) → s ≡ before_call now → is_whole_tree (state_after call s) ≡ true → IsNoHint call
hint_or_none (Call.TagHint tag) now s same whole e = let never : true ≡ false = sym whole ∙ ap is_whole_tree same ∙ never_whole now in cc never
hint_or_none call now s same whole e = cc e

whole_is_closed : (s : State) → is_whole_tree s ≡ true → s.frames ≡ []
whole_is_closed s whole = by_frames s.frames whole
  where
    by_frames : (fs : List Frame) → is_whole_value s.filled fs ≡ true → fs ≡ []
    by_frames [] e = refl
    by_frames (f ∷ fs) e = absurd (cc e)

ends_tree : (l : Listed) (front : List Call) (call : Call) → ListsSoFar l front → goes_on l.state call ≡ true → is_whole_tree (state_after call l.state) ≡ true → EndsTree front call
ends_tree l front call so_far goes whole =
    let more = listed_more l front call so_far goes in
    let t = ends_with_trees (front ++ (call ∷ [])) more.now more.runs (sym (same_frames more) ∙ whole_is_closed (state_after call l.state) whole) in
    record { counts = hint_or_none call so_far.now l.state so_far.state whole; trees = t.0; spells = t.1 }

number_is : (n at last : ℕ) → at ≡ as_kept n → last ≡ one_more at → last ≡ as_kept (n + 1)
number_is n at last is same = omega (arith, is, same)

stopped_at : (e : Emission) (last : Listed) → StopsAt listing_law ListsSoFar [] e.calls last → IsListAnswer e (Err (stop_by last.why last.taken))
stopped_at e last r = by_last left.last left.why left.cause
  where
    left : IsListedRefusal r.at r.call last
    left = r.left r.so_far.willing

    grows : (has_own_end r.call ≡ true) ⊎ (is_whole_tree (state_after r.call r.at.state) ≡ true) → goes_on r.at.state r.call ≡ true → (has_own_end r.call ≡ true) ⊎ EndsTree r.taken r.call
    grows (inl o) goes = inl o
    grows (inr whole) goes = inr (ends_tree r.at r.taken r.call r.so_far goes whole)

    by_last : (why : Refusal) → last.why ≡ Some why → IsStopFor r.at r.call why → IsListAnswer e (Err (stop_by last.why last.taken))
    by_last NotViable is c = subst (λ (w : Option Refusal). IsListAnswer e (Err (stop_by w last.taken))) (sym is) (inl (record {
      front = r.taken;
      call = r.call;
      rest = r.rest;
      whole = r.whole;
      before = taken_list_is_viable r.taken r.so_far.now r.so_far.runs;
      bad = λ v.
          let k = viable_is_next_of_list r.taken r.call r.so_far.now r.so_far.runs v in
          let goes = goes_of_list (length r.taken + 1) r.so_far.now k.0 r.call k.1 in
          let never : true ≡ false = sym goes ∙ ap (λ (s : State). goes_on s r.call) (sym r.so_far.state) ∙ c in
          cc never;
      number = number_is (length r.taken) r.at.taken last.taken r.so_far.taken left.taken;
    }))
    by_last NoMemory is c = subst (λ (w : Option Refusal). IsListAnswer e (Err (stop_by w last.taken))) (sym is) (inr (
      refl,
      record {
        front = r.taken;
        call = r.call;
        rest = r.rest;
        whole = r.whole;
        viable = let more = listed_more r.at r.taken r.call r.so_far c.0 in taken_list_is_viable (r.taken ++ (r.call ∷ [])) more.now more.runs;
        grows = grows c.1 c.0;
      },
    ))

pub stop_is_due : (e : Emission) (first last : Listed) → first ≡ nothing_listed → Stops listing_law (listed_standing first) e (listed_standing last) → IsListAnswer e (Err (stop_by last.why last.taken))
stop_is_due e first last new s =
    by_stop (stops listing_law ListsSoFar listed_all (listed_standing first) (listed_standing last) first [] e.calls e.refuses (subst (λ (l : Listed). ListsSoFar l []) (sym new) none_listed) s.stopped)
  where
    by_stop : StopsAfterAll ListsSoFar [] e.calls e.refuses last ⊎ StopsAt listing_law ListsSoFar [] e.calls last → IsListAnswer e (Err (stop_by last.why last.taken))
    by_stop (inl r) = stopped_none e last r
    by_stop (inr r) = stopped_at e last r
