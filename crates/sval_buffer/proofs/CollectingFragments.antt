-- What a stream that meets the steps holds in the end, and what it knows of a refusal.
use Rattle.std.specs.Prelude.{◌≡◌, Bool, true, List, [], ◌∷◌, None, Result, Ok, Err, IsOk, is_ok, refl}
use Rattle.std.proofs.Common.{ap, ◌∙◌, sym, subst, inl, inr}
use Rattle.sval_label.specs.Calls.{Call}
use Rattle.sval_core.specs.Law.{Standing, Emission, Ran, Streams, StoppedIn, Stops}
use Rattle.sval_buffer.specs.Pushes.{HeldBytes}
use Rattle.sval_buffer.specs.Forest.{no_bytes}
use Rattle.sval_buffer.specs.declared.error.Word.{Word}
use Rattle.sval_buffer.specs.declared.error.Word.TheVariants as word
use Rattle.sval_buffer.specs.declared.error.ErrorKind.{ErrorKind}
use Rattle.sval_buffer.specs.declared.error.ErrorKind.TheVariants as error
use Rattle.sval_buffer.specs.Capture.{IsNoAlloc}
use Rattle.sval_buffer.specs.CapturedValues.{cause_by}
use Rattle.sval_buffer.specs.Collected.{IsHeldDue}
use Rattle.sval_buffer.specs.CollectSteps.{Collects, steps_of, answer_after, LacksMemoryFrom, LacksCollectMemory, Collecting, nothing_collected, held_by, IsUnfitBy, collect_law, collecting}
use Rattle.sval_buffer.specs.CollectLaws.{StepsCollect, StreamCollects}

module _ (how : Collects) where
  ran_steps : (calls : List Call) (view last : Collecting) → Ran (collect_law how) view calls last → (steps_of how.step view.held calls ≡ Ok last.held) × (last.refusal ≡ view.refusal)
  unfolding steps_of
  ran_steps [] view last e = (ap (λ (c : Collecting). Ok c.held) (sym e), ap (λ (c : Collecting). c.refusal) e)
  ran_steps (call ∷ calls) view last r = go (how.step view.held call) (λ next k. ran_steps calls next last k) r.0 r.1
    where
      go : (r : Result HeldBytes Word) → ((next : Collecting) → Ran (collect_law how) next calls last → (steps_of how.step next.held calls ≡ Ok last.held) × (last.refusal ≡ next.refusal))
          → IsOk r → Ran (collect_law how) (record { held = held_by r view.held; refusal = view.refusal; wants = view.wants }) calls last
          → (◌≡◌ {A = Result HeldBytes Word} (elim r [ Ok next ↦ steps_of how.step next calls | Err actual ↦ Err actual ]) (Ok last.held)) × (last.refusal ≡ view.refusal)
      go (Ok next) each ok k = each (record { held = next; refusal = view.refusal; wants = view.wants }) k
      go (Err actual) each ok k = absurd (cc)

  -- memory was wanting, whatever is due
  free : (due : Result HeldBytes ErrorKind) (why : ErrorKind) → IsNoAlloc why → IsHeldDue due (Err why)
  free due (error.NoAlloc method) h = tt
  free due (error.Unsupported actual wanted) h = absurd h
  free due (error.InvalidValue reason) h = absurd h
  free due (error.OutsideContainer method) h = absurd h

  due_here : (r : Result HeldBytes Word) (rest : HeldBytes → Result HeldBytes Word) (refuses grows : Bool) (why : ErrorKind) → IsUnfitBy how.expected grows r why
      → IsHeldDue (answer_after how.expected refuses (elim r [ Ok next ↦ rest next | Err actual ↦ Err actual ])) (Err why)
  due_here (Ok next) rest refuses grows why h = free (answer_after how.expected refuses (rest next)) why h.no_alloc
  due_here (Err actual) rest refuses grows why h = subst (λ w. IsHeldDue (Err (error.Unsupported actual how.expected)) (Err w)) (sym h) refl

  stopped_steps : (calls : List Call) (view : Collecting) (old new : Standing Collecting) (refuses : Bool) → view.refusal ≡ None → StoppedIn (collect_law how) old new view calls refuses
      → IsHeldDue (answer_after how.expected refuses (steps_of how.step view.held calls)) (Err (cause_by new.view.refusal))
  unfolding steps_of
  stopped_steps [] view old new refuses none p =
      subst (λ r. IsHeldDue (answer_after how.expected r (Ok view.held)) (Err (cause_by new.view.refusal))) (sym p.0)
      (subst (λ o. IsHeldDue (Err (error.InvalidValue word.FailedToStream)) (Err (cause_by o))) (sym (ap (λ (c : Collecting). c.refusal) p.1 ∙ none)) refl)
  stopped_steps (call ∷ calls) view old new refuses none (inl p) =
      subst (λ o. IsHeldDue (answer_after how.expected refuses (steps_of how.step view.held (call ∷ calls))) (Err (cause_by o))) (sym p.1.refusal)
      (due_here (how.step view.held call) (λ next. steps_of how.step next calls) refuses (how.grows view.held call) p.1.why p.1.cause)
  stopped_steps (call ∷ calls) view old new refuses none (inr p) = go (how.step view.held call) (λ next same k. stopped_steps calls next old new refuses same k) p.0 p.1
    where
      go : (r : Result HeldBytes Word) → ((next : Collecting) → next.refusal ≡ None → StoppedIn (collect_law how) old new next calls refuses → IsHeldDue (answer_after how.expected refuses (steps_of how.step next.held calls)) (Err (cause_by new.view.refusal)))
          → IsOk r → StoppedIn (collect_law how) old new (record { held = held_by r view.held; refusal = view.refusal; wants = view.wants }) calls refuses
          → IsHeldDue (answer_after how.expected refuses (elim r [ Ok next ↦ steps_of how.step next calls | Err actual ↦ Err actual ])) (Err (cause_by new.view.refusal))
      go (Ok next) each ok k = each (record { held = next; refusal = view.refusal; wants = view.wants }) none k
      go (Err actual) each ok k = absurd (cc)

  on_ok : (collected : Emission → Result HeldBytes ErrorKind) → StepsCollect how.expected how.step collected → (e : Emission) (start last : Collecting) → start ≡ nothing_collected
      → Streams (collect_law how) (collecting start) e (collecting last) → IsHeldDue (collected e) (Ok last.held)
  on_ok collected same e start last new s =
      let r : steps_of how.step no_bytes e.calls ≡ Ok last.held = subst (λ (c : Collecting). steps_of how.step c.held e.calls ≡ Ok last.held) new (ran_steps e.calls start last s.ran).0 in
      sym (sym (same e) ∙ ap (answer_after how.expected e.refuses) r ∙ ap (λ r. answer_after how.expected r (Ok last.held)) s.willing)

  on_err : (collected : Emission → Result HeldBytes ErrorKind) → StepsCollect how.expected how.step collected → (e : Emission) (start last : Collecting) → start ≡ nothing_collected
      → Stops (collect_law how) (collecting start) e (collecting last) → IsHeldDue (collected e) (Err (cause_by last.refusal))
  on_err collected same e start last new s =
      let at_start : IsHeldDue (answer_after how.expected e.refuses (steps_of how.step start.held e.calls)) (Err (cause_by last.refusal)) =
      stopped_steps e.calls start (collecting start) (collecting last) e.refuses (ap (λ (c : Collecting). c.refusal) new) s.stopped in
      subst (λ due. IsHeldDue due (Err (cause_by last.refusal))) (same e)
      (subst (λ (c : Collecting). IsHeldDue (answer_after how.expected e.refuses (steps_of how.step c.held e.calls)) (Err (cause_by last.refusal))) new at_start)

  -- ---- want of memory

  lacks_here : (start : HeldBytes) (call : Call) (later : List Call) → IsOk (how.step start call) → how.grows start call ≡ true → LacksMemoryFrom how start (call ∷ later)
  unfolding steps_of
  lacks_here start call later fits grows = record {
    before = [];
    call = call;
    later = later;
    calls_are = refl;
    held = start;
    before_fit = refl;
    fits = fits;
    takes_memory = grows;
  }

  lacks_later : (start next : HeldBytes) (call : Call) (calls : List Call) → how.step start call ≡ Ok next → LacksMemoryFrom how next calls → LacksMemoryFrom how start (call ∷ calls)
  unfolding steps_of
  lacks_later start next call calls fits out = record {
    before = call ∷ out.before;
    call = out.call;
    later = out.later;
    calls_are = ap (λ xs. call ∷ xs) out.calls_are;
    held = out.held;
    before_fit = ap (λ (r : Result HeldBytes Word). elim r [ Ok held ↦ steps_of how.step held out.before | Err actual ↦ Err actual ]) fits ∙ out.before_fit;
    fits = out.fits;
    takes_memory = out.takes_memory;
  }

  stopped_wants : (calls : List Call) (view : Collecting) (old new : Standing Collecting) (refuses : Bool) → view.refusal ≡ None → StoppedIn (collect_law how) old new view calls refuses
      → IsNoAlloc (cause_by new.view.refusal) → LacksMemoryFrom how view.held calls
  stopped_wants [] view old new refuses none p want =
      absurd (subst (λ o. IsNoAlloc (cause_by o)) (ap (λ (c : Collecting). c.refusal) p.1 ∙ none) want)
  stopped_wants (call ∷ calls) view old new refuses none (inl p) want =
      go (how.step view.held call) refl p.1.cause (subst (λ o. IsNoAlloc (cause_by o)) p.1.refusal want)
    where
      go : (r : Result HeldBytes Word) → how.step view.held call ≡ r → IsUnfitBy how.expected (how.grows view.held call) r p.1.why → IsNoAlloc p.1.why
          → LacksMemoryFrom how view.held (call ∷ calls)
      go (Ok next) is cause no_alloc = lacks_here view.held call calls (ap is_ok is) cause.takes_memory
      go (Err actual) is cause no_alloc = absurd (subst IsNoAlloc cause no_alloc)
  stopped_wants (call ∷ calls) view old new refuses none (inr p) want =
      go (how.step view.held call) refl (λ next same k. stopped_wants calls next old new refuses same k want) p.0 p.1
    where
      go : (r : Result HeldBytes Word) → how.step view.held call ≡ r
          → ((next : Collecting) → next.refusal ≡ None → StoppedIn (collect_law how) old new next calls refuses → LacksMemoryFrom how next.held calls)
          → IsOk r → StoppedIn (collect_law how) old new (record { held = held_by r view.held; refusal = view.refusal; wants = view.wants }) calls refuses
          → LacksMemoryFrom how view.held (call ∷ calls)
      go (Ok next) is each ok k = lacks_later view.held next call calls is (each (record { held = next; refusal = view.refusal; wants = view.wants }) none k)
      go (Err actual) is each ok k = absurd (cc)

  on_want : (e : Emission) (start last : Collecting) → start ≡ nothing_collected → Stops (collect_law how) (collecting start) e (collecting last)
      → IsNoAlloc (cause_by last.refusal) → LacksCollectMemory how e.calls
  on_want e start last new s want =
      subst (λ (c : Collecting). LacksMemoryFrom how c.held e.calls) new
      (stopped_wants e.calls start (collecting start) (collecting last) e.refuses (ap (λ (c : Collecting). c.refusal) new) s.stopped want)

  pub stream_collects : (collected : Emission → Result HeldBytes ErrorKind) → StepsCollect how.expected how.step collected → StreamCollects how collected
  stream_collects collected same = record { on_ok = on_ok collected same; on_err = on_err collected same; on_want = on_want }
