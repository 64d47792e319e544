-- What the inner stream of a filter has taken, and that the filter takes calls that spell a tree.
use Rattle.std.specs.Prelude.{◌≡◌, Bool, false, List, [], ◌∷◌, ◌++◌, Option, Some, None, refl}
use Rattle.std.proofs.Common.{sym, subst}
use Rattle.sval_label.specs.Calls.{Call}
use Rattle.sval_core.specs.Law.{Law, Standing, Ran, Streams, then_emits}
use Rattle.sval_core.specs.Values.{makes}
use Rattle.sval_core.specs.Spells.{plain, plain_call}
use Rattle.sval_core.specs.Checker.{Frame, State, Runs, done, more}
use Rattle.sval_core.proofs.Completions.{spelling_is_run}
use Rattle.sval_core.proofs.ManyRuns.{plain_none, plain_some}
use Rattle.sval_core.proofs.Determined.{first_step}
use Rattle.sval_core.proofs.Emissions.{streams_then}
use Rattle.sval_core.specs.StepLaws.{Goes}
use Rattle.sval_core.proofs.CheckerSteps.{goes_to, goes_taken}
use Rattle.sval_filter.specs.Paths.{Path, Rule}
use Rattle.sval_filter.specs.Filtering.{fresh, due, kept_after, all_due}
use Rattle.sval_filter.specs.FilterLaw.{Why, NotViable, NoMemory, Inner, FilterView, new_filter, is_stopped, all_taken, AcceptsAll, FilterAccepts, inner_after, filter_after, IsFilterCause, IsFilterLeft, filter_law, Took, none, takes, refuses}
use Rattle.sval_filter.specs.Laws.{InnerTakesPruned, TakesTrees}
use Rattle.sval_filter.proofs.DueCalls.{due_spells_pruned}

-- ---- joined calls

streams_both : {V : Type 0} (law : Law V) (old middle new : Standing V) (first second : List Call)
    → Streams law old (makes first) middle → Streams law middle (makes second) new → Streams law old (makes (first ++ second)) new
unfolding then_emits
streams_both law old middle new first second p q = streams_then p q

accepts_first : {V : Type 0} (law : Law V) (first second : List Call) (old : V) → AcceptsAll law old (first ++ second) → AcceptsAll law old first
accepts_first law [] second old r = refl
accepts_first law (c ∷ first) second old r = (r.0, accepts_first law first second (law.after old c) r.1)

accepts_second : {V : Type 0} (law : Law V) (first second : List Call) (old : V) → AcceptsAll law old (first ++ second) → AcceptsAll law (all_taken law old first) second
accepts_second law [] second old r = r
accepts_second law (c ∷ first) second old r = accepts_second law first second (law.after old c) r.1

module _ {V : Type 0} (law : Law V) (rule : Rule) (paths : List Path) where
  -- ---- what the inner stream has taken is what was due

  -- a refusal that doesn't stop the filter leaves the inner stream
  inner_left : (view left : FilterView V) (call : Call) → IsFilterLeft law rule paths view call left → is_stopped left.why ≡ false → left.inner ≡ view.inner
  inner_left view left call is going = by_cause is.last (subst (λ why. is_stopped why ≡ false) is.why going) is.cause
    where
      by_cause : (last : Why) → is_stopped (Some last) ≡ false → IsFilterCause law rule paths view call left.inner last → left.inner ≡ view.inner
      by_cause NotViable e c = c.1
      by_cause NoMemory e c = c.1
      by_cause Inner e c = cc e

  inner_takes_due : (calls : List Call) (view last : FilterView V) → Took law rule paths view calls last
      → Streams law view.inner (makes (all_due rule paths view.kept calls)) last.inner
  inner_takes_due [] view last none = record { willing = refl; ran = refl; faults = refl; wants = refl }
  inner_takes_due (c ∷ calls) view last (takes accepts later) =
      let now = due rule paths view.kept c in
      streams_both law view.inner (inner_after law view.inner now) last.inner now (all_due rule paths (kept_after rule paths view.kept c) calls)
      (record { willing = refl; ran = accepts.passed_on; faults = refl; wants = refl }) (inner_takes_due calls (filter_after law rule paths view c) last later)
  inner_takes_due calls view last (refuses {left = left} call is going later) =
      subst (λ inner. Streams law inner (makes (all_due rule paths view.kept calls)) last.inner) (inner_left view left call is going)
      (subst (λ kept. Streams law left.inner (makes (all_due rule paths kept calls)) last.inner) is.kept (inner_takes_due calls left last later))

  -- ---- and the filter takes them, where the inner stream takes what is due

  -- what one call of a run comes to
  pub one_goes : (state : State) (c : Call) (calls : List Call) {b' : Bool} {fs' : List Frame} → Runs state.filled state.frames (plain (c ∷ calls)) b' fs'
      → (next : State) × Goes state c next × Runs next.filled next.frames (plain calls) b' fs'
  one_goes state c calls {b'} {fs'} r = by_call (plain_call c) refl
    where
      of_step : (p : Call) → plain_call c ≡ Some p → Runs state.filled state.frames (p ∷ plain calls) b' fs'
          → (next : State) × Goes state c next × Runs next.filled next.frames (plain calls) b' fs'
      of_step p e q =
          let s = first_step q in (
            record { filled = s.0; frames = s.1 },
            subst (λ x. Runs state.filled state.frames x s.0 s.1) (sym (plain_some c p [] e)) (more s.2 done),
            s.3,
          )

      by_call : (o : Option Call) → plain_call c ≡ o → (next : State) × Goes state c next × Runs next.filled next.frames (plain calls) b' fs'
      by_call None e = (
        state,
        subst (λ x. Runs state.filled state.frames x state.filled state.frames) (sym (plain_none c [] e)) done,
        subst (λ x. Runs state.filled state.frames x b' fs') (plain_none c calls e) r,
      )
      by_call (Some p) e = of_step p e (subst (λ x. Runs state.filled state.frames x b' fs') (plain_some c p calls e) r)

  filter_takes : (calls : List Call) (view : FilterView V) {b' : Bool} {fs' : List Frame} → is_stopped view.why ≡ false → Runs view.state.filled view.state.frames (plain calls) b' fs'
      → AcceptsAll law view.inner.view (all_due rule paths view.kept calls) → (last : FilterView V) × Ran (filter_law law rule paths) view calls last
  filter_takes [] view going r a = (view, refl)
  filter_takes (c ∷ calls) view {b'} {fs'} going r a =
      let g = one_goes view.state c calls r in
      let to = goes_to view.state g.0 c g.1 in
      let first = due rule paths view.kept c in
      let later = all_due rule paths (kept_after rule paths view.kept c) calls in
      let accepted : FilterAccepts law rule paths view c = record { goes = record { going = going; viable = goes_taken view.state g.0 c g.1 }; passed_on = accepts_first law first later view.inner.view a } in
      let next = filter_takes calls (filter_after law rule paths view c) going (subst (λ (s : State). Runs s.filled s.frames (plain calls) b' fs') to g.2) (accepts_second law first later view.inner.view a) in
      (next.0, (accepted, next.1))

-- ---- the laws

pub inner_takes_pruned : {V : Type 0} (law : Law V) → InnerTakesPruned law
inner_takes_pruned law rule paths calls tree inner last s r =
    (all_due rule paths fresh calls, inner_takes_due law rule paths calls (new_filter inner) last r, due_spells_pruned rule paths calls tree s)

pub takes_trees : {V : Type 0} (law : Law V) → TakesTrees law
takes_trees law rule paths calls tree inner s a = filter_takes law rule paths calls (new_filter inner) refl (spelling_is_run calls tree s) a
