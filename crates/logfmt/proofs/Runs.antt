-- What the writer has done after calls, by its law.
use Rattle.std.specs.Prelude.{◌≡◌, ℕ, ◌<◌, Bool, true, false, List, [], ◌∷◌, length, Option, Some, None, Result, Ok, Err, is_ok, refl}
use Rattle.std.proofs.Common.{sym, ap, ◌∙◌, subst, append-nil, arith, inl, inr}
use Rattle.sval_label.specs.declared.error.Error.{Error}
use Rattle.sval_label.specs.Calls.{Call}
use Rattle.sval_core.specs.Law.{Standing, Answers, Refuses, Ran, Streams, StoppedIn, Stops, Emission}
use Rattle.logfmt.specs.declared.LogfmtError.{LogfmtError}
use Rattle.logfmt.specs.declared.LogfmtError.TheVariants as error
use Rattle.logfmt.specs.Pairs.{logfmt_then}
use Rattle.logfmt.specs.Steps.{Begun, LogfmtStep, logfmt_step, logfmt_steps}
use Rattle.logfmt.specs.Writing.{Writing, nothing_written, LeavesText, LacksTextMemory, IsStoppedFor, DoesStep, begun_after, writing_law, writing_standing, cause_of, ended_line, written_line, StepsWriteText, Fails}

-- ---- one call

-- a step that is refused has a cause
own : (call : Call) (old new : Writing) (why : LogfmtError) → logfmt_step call old.begun ≡ Err why → new.wants ≡ old.wants → IsStoppedFor new.why (logfmt_step call old.begun) old new
    → Refuses writing_law (writing_standing old) call (writing_standing new)
own call old new why is same left = record {
  cause = inl (λ accepted. let never : true ≡ false = sym accepted ∙ ap is_ok is in cc never);
  left = left;
  faults = omega arith;
  wants = omega (arith, same);
}

refuses : (call : Call) (old new : Writing) (why : Option LogfmtError) → new.why ≡ why → IsStoppedFor why (logfmt_step call old.begun) old new → Refuses writing_law (writing_standing old) call (writing_standing new)
refuses call old new None is stop = absurd stop
refuses call old new (Some error.NoMemory) is stop = record {
  cause = inr (inr stop.rose);
  left = subst (λ w. IsStoppedFor w (logfmt_step call old.begun) old new) (sym is) stop;
  faults = omega arith;
  wants = stop.wants;
}
refuses call old new (Some error.NotFlat) is stop = own call old new error.NotFlat stop.0 (ap (λ (w : Writing). w.wants) stop.1) (subst (λ w. IsStoppedFor w (logfmt_step call old.begun) old new) (sym is) stop)
refuses call old new (Some error.InvalidKey) is stop = own call old new error.InvalidKey stop.0 (ap (λ (w : Writing). w.wants) stop.1) (subst (λ w. IsStoppedFor w (logfmt_step call old.begun) old new) (sym is) stop)
refuses call old new (Some error.Refused) is stop = own call old new error.Refused stop.0 (ap (λ (w : Writing). w.wants) stop.1) (subst (λ w. IsStoppedFor w (logfmt_step call old.begun) old new) (sym is) stop)
refuses call old new (Some error.Unfinished) is stop = own call old new error.Unfinished stop.0 (ap (λ (w : Writing). w.wants) stop.1) (subst (λ w. IsStoppedFor w (logfmt_step call old.begun) old new) (sym is) stop)

-- what is said of a step is what the law asks
pub answers : (call : Call) (result : Result (Unit {0}) Error) (old new : Writing) → DoesStep (logfmt_step call old.begun) result old new → Answers writing_law result (writing_standing old) call (writing_standing new)
answers call (Ok done) old new does = record {
  accepted = ap is_ok does.0;
  view = does.1 ∙ ap (λ b. let same : Writing = record old { begun = b } in same) (sym (ap (λ s. begun_after s old.begun) does.0));
  faults = refl;
  wants = ap (λ (w : Writing). w.wants) does.1;
}
answers call (Err refusal) old new does = refuses call old new new.why refl does

-- ---- many calls

ok_then : (s : LogfmtStep) (begun : Begun) (next : Begun → LogfmtStep) → is_ok s ≡ true → logfmt_then s next ≡ next (begun_after s begun)
ok_then (Ok b) begun next is = refl
ok_then (Err why) begun next is = cc is

-- calls that were taken are steps that were done
ran_steps : (calls : List Call) (v u : Writing) → Ran writing_law v calls u → logfmt_steps calls v.begun ≡ Ok u.begun
ran_steps [] v u ran = ap (λ (w : Writing). Ok w.begun) (sym ran)
ran_steps (call ∷ calls) v u ran =
    ok_then (logfmt_step call v.begun) v.begun (logfmt_steps calls) ran.0 ∙ ran_steps calls (record v { begun = begun_after (logfmt_step call v.begun) v.begun }) u ran.1

-- a call that was stopped gives its cause
at_call : (why : Option LogfmtError) (s : LogfmtStep) (next : Begun → LogfmtStep) (last : Begun → Result (List ℕ) LogfmtError) (v left : Writing) → IsStoppedFor why s v left
    → Fails (cause_of why) (logfmt_then (logfmt_then s next) last)
at_call None s next last v left stop = absurd stop
at_call (Some error.NoMemory) s next last v left stop = tt
at_call (Some error.NotFlat) s next last v left stop = ap (λ is. logfmt_then (logfmt_then is next) last) stop.0
at_call (Some error.InvalidKey) s next last v left stop = ap (λ is. logfmt_then (logfmt_then is next) last) stop.0
at_call (Some error.Refused) s next last v left stop = ap (λ is. logfmt_then (logfmt_then is next) last) stop.0
at_call (Some error.Unfinished) s next last v left stop = ap (λ is. logfmt_then (logfmt_then is next) last) stop.0

itself : (refuses : Bool) (why : Option LogfmtError) (begun : Begun) → refuses ≡ true → why ≡ None → Fails (cause_of why) (ended_line refuses begun)
itself refuses why begun is none = rw (is, none) refl

stopped : (calls : List Call) (refuses : Bool) (old new : Standing Writing) (v : Writing) → v.why ≡ None → StoppedIn writing_law old new v calls refuses
    → Fails (cause_of new.view.why) (logfmt_then (logfmt_steps calls v.begun) (ended_line refuses))
stopped [] refuses old new v none s = itself refuses new.view.why v.begun s.0 (ap (λ (w : Writing). w.why) s.1 ∙ none)
stopped (call ∷ calls) refuses old new v none (inl s) = at_call new.view.why (logfmt_step call v.begun) (logfmt_steps calls) (ended_line refuses) v new.view s.1
stopped (call ∷ calls) refuses old new v none (inr s) =
    subst (λ is. Fails (cause_of new.view.why) (logfmt_then is (ended_line refuses)))
    (sym (ok_then (logfmt_step call v.begun) v.begun (logfmt_steps calls) s.0))
    (stopped calls refuses old new (record v { begun = begun_after (logfmt_step call v.begun) v.begun }) none s.1)

-- ---- a value

-- where all was taken, the line is what is whole of it
pub streamed : (e : Emission) (first last : Writing) → first ≡ nothing_written → Streams writing_law (writing_standing first) e (writing_standing last) → written_line e ≡ ended_line false last.begun
streamed e first last new s =
    let taken : logfmt_steps e.calls nothing_written.begun ≡ Ok last.begun = subst (λ (v : Writing). logfmt_steps e.calls v.begun ≡ Ok last.begun) new (ran_steps e.calls first last s.ran) in
    rw (taken, s.willing) refl

-- where it stopped, the cause is what is due, or memory was wanting
pub stops : (e : Emission) (first last : Writing) → first ≡ nothing_written → Stops writing_law (writing_standing first) e (writing_standing last)
    → Fails (cause_of last.why) (written_line e)
stops e first last new s =
    subst (λ (v : Writing). Fails (cause_of last.why) (logfmt_then (logfmt_steps e.calls v.begun) (ended_line e.refuses))) new
    (stopped e.calls e.refuses (writing_standing first) (writing_standing last) first (ap (λ (v : Writing). v.why) new) s.stopped)

-- ---- want of memory

last_step : (s : LogfmtStep) → LeavesText s → LeavesText (logfmt_then s (logfmt_steps []))
last_step (Ok begun) text = text
last_step (Err why) text = text

-- where memory was wanting, the steps up to that call wrote text
wanted : (calls : List Call) (refuses : Bool) (old new : Standing Writing) (v : Writing) → v.why ≡ None → new.view.why ≡ Some error.NoMemory
    → StoppedIn writing_law old new v calls refuses → StepsWriteText calls v.begun
wanted [] refuses old new v none want s = let same : v.why ≡ Some error.NoMemory = sym (ap (λ (w : Writing). w.why) s.1) ∙ want in cc
wanted (call ∷ calls) refuses old new v none want (inl s) =
    let lacks : LacksTextMemory (logfmt_step call v.begun) v new.view = subst (λ why. IsStoppedFor why (logfmt_step call v.begun) v new.view) want s.1 in
    record { front = call ∷ []; rest = calls; is = refl; text = last_step (logfmt_step call v.begun) lacks.text }
wanted (call ∷ calls) refuses old new v none want (inr s) =
    let next : Writing = record v { begun = begun_after (logfmt_step call v.begun) v.begun } in
    let later = wanted calls refuses old new next none want s.1 in
    record {
      front = call ∷ later.front;
      rest = later.rest;
      is = ap (λ more. call ∷ more) later.is;
      text = subst LeavesText (sym (ok_then (logfmt_step call v.begun) v.begun (logfmt_steps later.front) s.0)) later.text;
    }

-- the cause is want of memory only where that stopped a call
wants_memory : (why : Option LogfmtError) → cause_of why ≡ error.NoMemory → why ≡ Some error.NoMemory
wants_memory None is = cc is
wants_memory (Some why) is = ap (λ cause. Some cause) is

pub stops_for_memory : (e : Emission) (first last : Writing) → first ≡ nothing_written → Stops writing_law (writing_standing first) e (writing_standing last)
    → cause_of last.why ≡ error.NoMemory → StepsWriteText e.calls nothing_written.begun
stops_for_memory e first last new s is =
    subst (λ (v : Writing). StepsWriteText e.calls v.begun) new
    (wanted e.calls e.refuses (writing_standing first) (writing_standing last) first (ap (λ (v : Writing). v.why) new) (wants_memory last.why is) s.stopped)

-- where all was taken, and there is text, all calls wrote it
pub streamed_text : (e : Emission) (first last : Writing) → first ≡ nothing_written → Streams writing_law (writing_standing first) e (writing_standing last)
    → 0 < length last.begun.text → StepsWriteText e.calls nothing_written.begun
streamed_text e first last new s text =
    let taken : logfmt_steps e.calls nothing_written.begun ≡ Ok last.begun = subst (λ (v : Writing). logfmt_steps e.calls v.begun ≡ Ok last.begun) new (ran_steps e.calls first last s.ran) in
    record { front = e.calls; rest = []; is = sym (append-nil e.calls); text = subst LeavesText (sym taken) text }
