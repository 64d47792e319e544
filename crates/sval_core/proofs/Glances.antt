-- What a stream at a glance says: it takes the calls of a whole value, and no others to a whole value.
use Rattle.std.specs.Prelude.{◌≡◌, Bool, true, false, List, [], ◌∷◌, ◌++◌}
use Rattle.std.proofs.Common.{sym, ap, ◌∙◌, subst}
use Rattle.std.proofs.lemmas.List.Elements.{filter_map-append}
use Rattle.sval_label.specs.Calls.{Call}
use Rattle.sval_core.specs.Spells.{plain, plain_call}
use Rattle.sval_core.specs.Law.{Standing, Emission, Ran, Streams}
use Rattle.sval_core.specs.Checker.{Frame, State, Runs, done, more}
use Rattle.sval_core.specs.CheckerSteps.{state_after}
use Rattle.sval_core.specs.OneValue.{IsOneValue, TakesAnyValue}
use Rattle.sval_core.specs.Glances.{glance_law, outside}
use Rattle.sval_core.proofs.Completions.{spelling_is_run, run_is_spelling}
use Rattle.sval_core.proofs.Determined.{joins, runs_determined}
use Rattle.sval_core.proofs.CheckerSteps.{goes_taken, goes_to, goes_after}

first_plain : (call : Call) (calls : List Call) → plain (call ∷ calls) ≡ plain (call ∷ []) ++ plain calls
first_plain call calls = filter_map-append plain_call (call ∷ []) calls

one_state : (s u : State) → (s.filled ≡ u.filled) × (s.frames ≡ u.frames) → s ≡ u
one_state s u e =
    ap (λ (b : Bool). let state : State = record { filled = b; frames = s.frames } in state) e.0
    ∙ ap (λ (fs : List Frame). let state : State = record { filled = u.filled; frames = fs } in state) e.1

-- the calls of a run in two, with the state between them
parted : {b b' : Bool} {fs fs' : List Frame} (first later : List Call) → Runs b fs (first ++ later) b' fs'
    → (mid : State) × Runs b fs first mid.filled mid.frames × Runs mid.filled mid.frames later b' fs'
parted {b = b} {fs = fs} [] later run = (record { filled = b; frames = fs }, done, run)
parted (call ∷ first) later (more step run) = let rest = parted first later run in (rest.0, more step rest.1, rest.2)

run_is_taken : (calls : List Call) (old new : State) → Runs old.filled old.frames (plain calls) new.filled new.frames → Ran glance_law old calls new
run_is_taken [] old new run = one_state new old (runs_determined [] run done)
run_is_taken (call ∷ calls) old new run =
    let rest = parted (plain (call ∷ [])) (plain calls) (subst (λ cs. Runs old.filled old.frames cs new.filled new.frames) (first_plain call calls) run) in
    (goes_taken old rest.0 call rest.1, subst (λ s. Ran glance_law s calls new) (goes_to old rest.0 call rest.1) (run_is_taken calls rest.0 new rest.2))

taken_is_run : (calls : List Call) (old new : State) → Ran glance_law old calls new → Runs old.filled old.frames (plain calls) new.filled new.frames
taken_is_run [] old new ran = subst (λ (s : State). Runs old.filled old.frames [] s.filled s.frames) (sym ran) done
taken_is_run (call ∷ calls) old new ran =
    subst (λ cs. Runs old.filled old.frames cs new.filled new.frames) (sym (first_plain call calls))
    (joins (plain (call ∷ [])) (plain calls) (goes_after old call ran.0) (taken_is_run calls (state_after call old) new ran.1))

-- a whole value is taken where none was
pub takes_any_value : (old new : Standing State) → old.view ≡ outside false → new.view ≡ outside true → new.faults ≡ old.faults → new.wants ≡ old.wants → TakesAnyValue glance_law old new
takes_any_value old new before after faults wants e one = record {
  willing = one.willing;
  ran = subst (λ s. Ran glance_law s e.calls new.view) (sym before)
      (subst (λ s. Ran glance_law (outside false) e.calls s) (sym after) (run_is_taken e.calls (outside false) (outside true) (spelling_is_run e.calls one.spells.0 one.spells.1)));
  faults = faults;
  wants = wants;
}

-- what was taken from none to a whole value is one
pub taken_is_whole : {old new : Standing State} {e : Emission} → old.view ≡ outside false → Streams glance_law old e new → new.view ≡ outside true → IsOneValue e
taken_is_whole {old = old} {new = new} {e = e} before streams after = record {
  willing = streams.willing;
  spells = run_is_spelling e.calls (taken_is_run e.calls (outside false) (outside true)
      (subst (λ s. Ran glance_law s e.calls (outside true)) before (subst (λ s. Ran glance_law old.view e.calls s) after streams.ran)));
}
