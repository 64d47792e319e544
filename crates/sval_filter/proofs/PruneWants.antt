-- Why a filter over a buffer stopped in a value whose calls spell a tree: memory was wanting.
use Rattle.std.specs.Prelude.{◌≡◌, ◌⊎◌, ⊤, Bool, true, false, List, [], ◌∷◌, ◌++◌, Option, Some, None, refl}
use Rattle.std.proofs.Common.{sym, subst, ◌∙◌, inl, inr}
use Rattle.sval_label.specs.Calls.{Call}
use Rattle.sval_core.specs.Trees.{Tree}
use Rattle.sval_core.specs.Spells.{Spells, plain}
use Rattle.sval_core.specs.Law.{Law, Standing, Emission, HasCause, Rose, StoppedIn, Stops}
use Rattle.sval_core.specs.Values.{makes}
use Rattle.sval_core.specs.Checker.{Frame, State, Runs}
use Rattle.sval_core.specs.CheckerSteps.{goes_on}
use Rattle.sval_core.proofs.CheckerSteps.{goes_to, goes_taken}
use Rattle.sval_core.proofs.Completions.{spelling_is_run}
use Rattle.sval_buffer.specs.Capture.{Capture, IsNoAlloc, no_calls, capture_law, capture_standing}
use Rattle.sval_buffer.specs.CapturedValues.{cause_by}
use Rattle.sval_buffer.specs.declared.error.ErrorKind.{ErrorKind}
use Rattle.sval_buffer.proofs.Collecting.{collect_cause, only_no_alloc}
use Rattle.sval_filter.specs.Paths.{Path, Rule}
use Rattle.sval_filter.specs.Pruned.{pruned}
use Rattle.sval_filter.specs.Pruning.{IsNoAllocIn, IsWanting, HasStopped, StopsPruned}
use Rattle.sval_filter.specs.Filtering.{fresh, due, kept_after, all_due}
use Rattle.sval_filter.specs.FilterLaw.{Why, NotViable, NoMemory, Inner, FilterView, new_filter, is_stopped, all_taken, AcceptsAll, inner_after, filter_after, IsFilterCause, IsFilterLeft, Ruled, ruled_law, ruled_standing}
use Rattle.sval_filter.proofs.DueCalls.{due_spells_pruned}
use Rattle.sval_filter.proofs.Filtered.{one_goes}

-- ---- joined calls

module _ {V : Type 0} (law : Law V) where
  same_cause : (view : V) (call : Call) (old other new : Standing V) → old.faults ≡ other.faults → old.wants ≡ other.wants → HasCause law view call old new → HasCause law view call other new
  same_cause view call old other new f w (inl never) = inl never
  same_cause view call old other new f w (inr (inl rose)) = inr (inl (subst (λ n. Rose n new.faults) f rose))
  same_cause view call old other new f w (inr (inr rose)) = inr (inr (subst (λ n. Rose n new.wants) w rose))

  stops_first : (first second : List Call) (old new : Standing V) (view : V) → StoppedIn law old new view first false → StoppedIn law old new view (first ++ second) false
  stops_first [] second old new view s = absurd (cc s.0)
  stops_first (call ∷ first) second old new view (inl s) = inl s
  stops_first (call ∷ first) second old new view (inr s) = inr (s.0, stops_first first second old new (law.after view call) s.1)

  same_stop : (calls : List Call) (old other new : Standing V) (view : V) → old.faults ≡ other.faults → old.wants ≡ other.wants → StoppedIn law old new view calls false → StoppedIn law other new view calls false
  same_stop [] old other new view f w s = s
  same_stop (call ∷ calls) old other new view f w (inl s) = inl (same_cause view call old other new f w s.0, s.1)
  same_stop (call ∷ calls) old other new view f w (inr s) = inr (s.0, same_stop calls old other new (law.after view call) f w s.1)

  stops_second : (first second : List Call) (old new : Standing V) (view : V) → AcceptsAll law view first → StoppedIn law old new (all_taken law view first) second false
      → StoppedIn law old new view (first ++ second) false
  stops_second [] second old new view a s = s
  stops_second (call ∷ first) second old new view a s = inr (a.0, stops_second first second old new (law.after view call) a.1 s)

  -- ---- why a filter stopped

  stopped_later : (why : Option Why) (inner now : Standing V) (first second : List Call) → AcceptsAll law inner.view first → HasStopped law why (inner_after law inner first) second now
      → HasStopped law why inner (first ++ second) now
  stopped_later (Some NoMemory) inner now first second a h = tt
  stopped_later (Some Inner) inner now first second a h = record {
    stopped = stops_second first second inner now inner.view a (same_stop second (inner_after law inner first) inner now (all_taken law inner.view first) refl refl h.stopped);
    faults = h.faults;
    wants = h.wants;
  }
  stopped_later (Some NotViable) inner now first second a h = absurd h
  stopped_later None inner now first second a h = absurd h

  module _ (rule : Rule) (paths : List Path) where
    by_cause : (view : FilterView V) (call : Call) (later : List Call) (inner : Standing V) (last : Why) → is_stopped view.why ≡ false → goes_on view.state call ≡ true
        → IsFilterCause law rule paths view call inner last → HasStopped law (Some last) view.inner (due rule paths view.kept call ++ later) inner
    by_cause view call later inner NotViable going viable c = let never : false ≡ true = sym c.0.not_viable ∙ viable in cc never
    by_cause view call later inner NoMemory going viable c = tt
    by_cause view call later inner Inner going viable (inl c) = let never : true ≡ false = sym c.0 ∙ going in cc never
    by_cause view call later inner Inner going viable (inr c) = record {
      stopped = stops_first (due rule paths view.kept call) later view.inner inner view.inner.view c.stops.stopped;
      faults = c.stops.faults;
      wants = c.stops.wants;
    }

    stopped_here : (view left : FilterView V) (call : Call) (later : List Call) → is_stopped view.why ≡ false → goes_on view.state call ≡ true → IsFilterLeft law rule paths view call left
        → HasStopped law left.why view.inner (due rule paths view.kept call ++ later) left.inner
    stopped_here view left call later going viable is =
        subst (λ why. HasStopped law why view.inner (due rule paths view.kept call ++ later) left.inner) (sym is.why) (by_cause view call later left.inner is.last going viable is.cause)

    filter_stops : (calls : List Call) (view : FilterView V) (old new : Standing (Ruled V)) {b' : Bool} {fs' : List Frame} → is_stopped view.why ≡ false
        → Runs view.state.filled view.state.frames (plain calls) b' fs' → StoppedIn (ruled_law law) old new (record { rule = rule; paths = paths; view = view }) calls false
        → HasStopped law new.view.view.why view.inner (all_due rule paths view.kept calls) new.view.view.inner
    filter_stops [] view old new going r s = absurd (cc s.0)
    filter_stops (call ∷ calls) view old new going r (inl s) =
        let g = one_goes law rule paths view.state call calls r in
        stopped_here view new.view.view call (all_due rule paths (kept_after rule paths view.kept call) calls) going (goes_taken view.state g.0 call g.1) s.1.filter
    filter_stops (call ∷ calls) view old new {b'} {fs'} going r (inr s) =
        let g = one_goes law rule paths view.state call calls r in
        let to = goes_to view.state g.0 call g.1 in
        let next = filter_stops calls (filter_after law rule paths view call) old new going (subst (λ (s : State). Runs s.filled s.frames (plain calls) b' fs') to g.2) s.1 in
        stopped_later new.view.view.why view.inner new.view.view.inner (due rule paths view.kept call) (all_due rule paths (kept_after rule paths view.kept call) calls) s.0.passed_on next

    -- a new filter that stopped in a value whose calls spell a tree lacked memory, or the inner stream stopped in the calls that are due
    pub stops_pruned : (e : Emission) (first last : Ruled V) (inner now : Standing V) → first ≡ record { rule = rule; paths = paths; view = new_filter inner } → now ≡ last.view.inner
        → Stops (ruled_law law) (ruled_standing first) e (ruled_standing last) → StopsPruned law inner e rule paths last.view.why now
    stops_pruned e first last inner now new is s tree willing spells =
        let here = subst (λ refuses. StoppedIn (ruled_law law) (ruled_standing first) (ruled_standing last) first e.calls refuses) willing s.stopped in
        let from = subst (λ (r : Ruled V). StoppedIn (ruled_law law) (ruled_standing first) (ruled_standing last) r e.calls false) new here in
        let h = filter_stops e.calls (new_filter inner) (ruled_standing first) (ruled_standing last) refl (spelling_is_run e.calls tree spells) from in
        subst (λ (s : Standing V). HasStopped law last.view.why inner (all_due rule paths fresh e.calls) s) (sym is) h

-- ---- over a buffer

refused_for_memory : (refusal : Option ErrorKind) → IsNoAlloc (cause_by refusal) → IsNoAllocIn refusal
refused_for_memory (Some why) h = h
refused_for_memory None h = absurd h

by_why : (why : Option Why) (calls : List Call) (left : Tree) (begun now : Capture) → begun ≡ no_calls 0 → Spells calls left
    → HasStopped capture_law why (capture_standing begun) calls (capture_standing now) → IsWanting why now.refusal
by_why (Some NoMemory) calls left begun now new spells h = tt
by_why (Some Inner) calls left begun now new spells h =
    refused_for_memory now.refusal (only_no_alloc (makes calls) left (cause_by now.refusal) refl spells (collect_cause (makes calls) begun now new h))
by_why (Some NotViable) calls left begun now new spells h = absurd h
by_why None calls left begun now new spells h = absurd h

-- what stopped a new filter over a new buffer is a want of memory
pub stops_wanting : (e : Emission) (tree : Tree) (rule : Rule) (paths : List Path) (why : Option Why) (begun now : Capture) → begun ≡ no_calls 0 → e.refuses ≡ false → Spells e.calls tree
    → StopsPruned capture_law (capture_standing begun) e rule paths why (capture_standing now) → IsWanting why now.refusal
stops_wanting e tree rule paths why begun now empty willing spells s =
    by_why why (all_due rule paths fresh e.calls) (pruned rule paths tree) begun now empty (due_spells_pruned rule paths e.calls tree spells) (s tree willing spells)
