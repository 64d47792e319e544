-- What a value's calls leave of the stream that they are passed on to.
use Rattle.std.specs.Prelude.{◌≡◌, ◌≤◌, ◌⊎◌, Bool, true, false, List, [], ◌∷◌, ◌++◌}
use Rattle.std.proofs.Common.{sym, ap, ◌∙◌, subst, arith, inl, inr}
use Rattle.sval_label.specs.Calls.{Call}
use Rattle.sval_core.specs.Law.{Law, Standing, Emission, Refuses, HasCause, Rose, Ran, Streams, StoppedIn, Stops, one_more}
use Rattle.sval_core.specs.OneValue.{IsOneValue}
use Rattle.sval_core.specs.Spells.{Spells, IsViable}
use Rattle.sval_core.specs.Trees.{Tree}
use Rattle.sval_core.proofs.FirstBad.{none_bad}
use Rattle.sval_core.proofs.Spellings.{spelling_is_viable}
use Rattle.sval_check.specs.declared.passing.Passing.{Passing}
use Rattle.sval_check.specs.declared.checked.Why.{Why}
use Rattle.sval_check.specs.declared.checked.Why.TheVariants.{NotViable, NoMemory, Inner}
use Rattle.sval_check.specs.Checked.{CheckedView, IsCause, StandsFor, checked_standing}
use Rattle.sval_check.specs.Checks.{NeedsMemory, HasCauseInto}
use Rattle.sval_check.specs.Passing.{passing_inner, passing_law, passing_state, seen_passing}
use Rattle.sval_check.proofs.CallsSoFar.{IsKept, all_so_far, StopsAfterAll, StopsAt, stops}
use Rattle.sval_check.proofs.SoFar.{appended, viable_goes}

-- ---- one call that is refused

inner_rises : {V : Type 0} (law : Law V) (view : CheckedView V) (call : Call) (inner : Standing V) (why : Why) → IsCause law view call inner why → view.inner.faults ≤ inner.faults
inner_rises {V} law view call inner NotViable cause = let same = ap (λ (s : Standing V). s.faults) cause.1 in omega (arith, same)
inner_rises {V} law view call inner NoMemory cause = let same = ap (λ (s : Standing V). s.faults) cause.2 in omega (arith, same)
inner_rises law view call inner Inner cause = cause.1.faults

pub refused_for : {V : Type 0} (law : Law V) (old passed new : CheckedView V) (call : Call) (why : Why) → IsCause law old call passed.inner why × (passed.wants ≡ old.wants) → new.inner ≡ passed.inner
    → new.wants ≡ one_more passed.wants → passed.wants ≤ new.wants → Refuses (passing_law law) (checked_standing old) call (checked_standing new)
refused_for {V} law old passed new call why p same counted up =
    let cause : IsCause law old call new.inner why = subst (λ (inner : Standing V). IsCause law old call inner why) (sym same) p.0 in
    record {
      cause = inr (inr (omega (arith, p.1, counted)));
      left = (why, cause);
      faults = inner_rises law old call new.inner why cause;
      wants = omega (arith, p.1, up);
    }

-- ---- the calls so far

ran_more : {V : Type 0} (law : Law V) (v u : V) (calls : List Call) (call : Call) → Ran law v calls u → law.accepts u call → Ran law v (calls ++ (call ∷ [])) (law.after u call)
ran_more {V} law v u [] call ran accepts = (subst (λ (w : V). law.accepts w call) ran accepts, ap (λ (w : V). law.after w call) ran)
ran_more law v u (first ∷ calls) call ran accepts = (ran.0, ran_more law (law.after v first) u calls call ran.1 accepts)

-- these calls were checked and passed on to a stream that stood there first
record PassedSoFar {V : Type 0} (law : Law V) (first : Standing V) (view : CheckedView V) (calls : List Call) : Type 0 where
  pub stands : StandsFor view.state calls
  pub ran : Ran law first.view calls view.inner.view
  pub faults : view.inner.faults ≡ first.faults
  pub wants : view.inner.wants ≡ first.wants

passed_more : {V : Type 0} (law : Law V) (first : Standing V) → IsKept (passing_law law) (PassedSoFar law first)
passed_more law first view calls call so_far goes = record {
  stands = appended view.state calls call so_far.stands goes.viable;
  ran = ran_more law first.view view.inner.view calls call so_far.ran goes.inside;
  faults = so_far.faults;
  wants = so_far.wants;
}

-- ---- the call at which the inner stream stopped

stopped_after : {V : Type 0} (law : Law V) (old new : Standing V) (v u : V) (taken rest : List Call) (call : Call) (refuses : Bool) → Ran law v taken u → HasCause law u call old new → law.stopped u call new.view
    → StoppedIn law old new v (taken ++ (call ∷ rest)) refuses
stopped_after {V} law old new v u [] rest call refuses ran cause left =
    inl (subst (λ (w : V). HasCause law w call old new) ran cause, subst (λ (w : V). law.stopped w call new.view) ran left)
stopped_after law old new v u (first ∷ taken) rest call refuses ran cause left = inr (ran.0, stopped_after law old new (law.after v first) u taken rest call refuses ran.1 cause left)

cause_since : {V : Type 0} (law : Law V) (v : V) (call : Call) (old at new : Standing V) → at.faults ≡ old.faults → at.wants ≡ old.wants → HasCause law v call at new → HasCause law v call old new
cause_since law v call old at new faults wants (inl never) = inl never
cause_since law v call old at new faults wants (inr (inl rose)) = inr (inl (subst (λ n. Rose n new.faults) faults rose))
cause_since law v call old at new faults wants (inr (inr rose)) = inr (inr (subst (λ n. Rose n new.wants) wants rose))

-- ---- a value

module _ {V : Type 0} (law : Law V) (e : Emission) (first : Standing V) where
  viable_of : IsOneValue e → IsViable e.calls
  viable_of one = spelling_is_viable e.calls one.spells.0 one.spells.1

  at_call : (last : CheckedView V) → StopsAt (passing_law law) (PassedSoFar law first) [] e.calls last → HasCauseInto law first e
  at_call last r = by_why r.left.0 r.left.1
    where
      by_why : (why : Why) → IsCause law r.at r.call last.inner why → HasCauseInto law first e
      by_why NotViable cause = inl (λ one. none_bad e.calls r.taken r.rest r.call r.whole (viable_of one) (λ v.
          let never : true ≡ false = sym (viable_goes r.at.state r.taken r.call r.so_far.stands v) ∙ cause.0 in cc never))
      by_why NoMemory cause = inr (inr (record {
        front = r.taken;
        call = r.call;
        rest = r.rest;
        whole = r.whole;
        viable = (appended r.at.state r.taken r.call r.so_far.stands cause.1).viable;
        opens = cause.0;
      }))
      by_why Inner cause =
          let since = cause_since law r.at.inner.view r.call first r.at.inner last.inner r.so_far.faults r.so_far.wants cause.1.cause in
          let stopped = stopped_after law first last.inner first.view r.at.inner.view r.taken r.rest r.call e.refuses r.so_far.ran since cause.1.left in
          inr (inl (
            last.inner,
            record {
              stopped = subst (λ calls. StoppedIn law first last.inner first.view calls e.refuses) (sym r.whole) stopped;
              faults = subst (λ n. n ≤ last.inner.faults) r.so_far.faults cause.1.faults;
              wants = subst (λ n. n ≤ last.inner.wants) r.so_far.wants cause.1.wants;
            },
          ))

  after_all : (last : CheckedView V) → StopsAfterAll (PassedSoFar law first) [] e.calls e.refuses last → HasCauseInto law first e
  after_all last r = inl (λ one. let never : true ≡ false = sym r.refused ∙ one.willing in cc never)

module _ {S V : Type 0} (law : Law V) (standing : S → Standing V) (e : Emission) (begun done : Passing S) (old : S) (first : passing_inner begun ≡ old) (stands : StandsFor (passing_state begun) []) where
  none_passed : PassedSoFar law (standing old) (seen_passing standing begun) []
  none_passed = record {
    stands = stands;
    ran = ap (λ (x : S). (standing x).view) first;
    faults = ap (λ (x : S). (standing x).faults) first;
    wants = ap (λ (x : S). (standing x).wants) first;
  }

  all_passed : Streams (passing_law law) (checked_standing (seen_passing standing begun)) e (checked_standing (seen_passing standing done))
      → PassedSoFar law (standing old) (seen_passing standing done) e.calls
  all_passed s =
      all_so_far (passing_law law) (PassedSoFar law (standing old)) (passed_more law (standing old)) (seen_passing standing begun) (seen_passing standing done) [] e.calls none_passed s.ran

  pub one_value_passed : Streams (passing_law law) (checked_standing (seen_passing standing begun)) e (checked_standing (seen_passing standing done))
      → ((calls : List Call) → StandsFor (passing_state done) calls → (tree : Tree) × Spells calls tree) → IsOneValue e
  one_value_passed s whole = record { willing = s.willing; spells = whole e.calls (all_passed s).stands }

  pub inner_streams : (new : S) → new ≡ passing_inner done
      → Streams (passing_law law) (checked_standing (seen_passing standing begun)) e (checked_standing (seen_passing standing done)) → Streams law (standing old) e (standing new)
  inner_streams new last s =
      let passed = all_passed s in
      let inside : Streams law (standing old) e (standing (passing_inner done)) = record { willing = s.willing; ran = passed.ran; faults = passed.faults; wants = passed.wants } in
      subst (λ (x : S). Streams law (standing old) e (standing x)) (sym last) inside

  -- no value was whole
  pub not_whole_passed : Streams (passing_law law) (checked_standing (seen_passing standing begun)) e (checked_standing (seen_passing standing done))
      → ((calls : List Call) → StandsFor (passing_state done) calls → (tree : Tree) → Spells calls tree → ⊥) → HasCauseInto law (standing old) e
  not_whole_passed s never = inl (λ one. never e.calls (all_passed s).stands one.spells.0 one.spells.1)

  -- a call was refused, or the value itself refused
  pub stopped_passing : Stops (passing_law law) (checked_standing (seen_passing standing begun)) e (checked_standing (seen_passing standing done)) → HasCauseInto law (standing old) e
  stopped_passing s =
      by_stop (stops (passing_law law) (PassedSoFar law (standing old)) (passed_more law (standing old)) (checked_standing (seen_passing standing begun)) (checked_standing (seen_passing standing done))
      (seen_passing standing begun) [] e.calls e.refuses none_passed s.stopped)
    where
      by_stop : StopsAfterAll (PassedSoFar law (standing old)) [] e.calls e.refuses (seen_passing standing done) ⊎ StopsAt (passing_law law) (PassedSoFar law (standing old)) [] e.calls (seen_passing standing done)
          → HasCauseInto law (standing old) e
      by_stop (inl r) = after_all law e (standing old) (seen_passing standing done) r
      by_stop (inr r) = at_call law e (standing old) (seen_passing standing done) r
