-- A writer takes the calls that a program passes where its steps take them.
use Rattle.std.specs.Prelude.{ℕ, List, [], ◌∷◌, Bool, Option, Result, Ok, Err, IsUtf8}
use Rattle.std.proofs.Common.{inl, inr}
use Rattle.sval_label.specs.declared.error.Error.{Error}
use Rattle.sval_label.specs.Calls.{Call}
use Rattle.sval_core.specs.Law.{Standing, Emission, HasCause, Answers, Ran, StoppedIn, Emits}
use Rattle.std.specs.List.{AllByRecursion}
use Rattle.sval_core.specs.Trees.{Tree}
use Rattle.sval_core.specs.Spells.{Spells}
use Rattle.sval_core.specs.Values.{makes, whole_text_calls, whole_key_calls}
use Rattle.sval_core.specs.Real.{IsRealCall, IsReal}
use Rattle.sval_core.proofs.RealTrees.{real_calls-real_tree}
use Rattle.sval_json.specs.Passed.{IsPassed, ArePassed}
use Rattle.sval_json.specs.WriterLaw.{WriterView, step_law, writer_law}

cause_passed : (view : WriterView) (call : Call) (old new : Standing WriterView) → HasCause step_law view call old new → HasCause writer_law view call old new
cause_passed view call old new (inl declined) = inl (λ accepted. declined accepted.0)
cause_passed view call old new (inr rose) = inr rose

pub answers_passed : (r : Result (Unit {0}) Error) (old new : Standing WriterView) (call : Call) → IsPassed call → Answers step_law r old call new → Answers writer_law r old call new
answers_passed (Ok done) old new call passed taken = record { accepted = (taken.accepted, passed); view = taken.view; faults = taken.faults; wants = taken.wants }
answers_passed (Err refusal) old new call passed refused =
    record { cause = cause_passed old.view call old new refused.cause; left = refused.left; faults = refused.faults; wants = refused.wants }

ran_passed : (calls : List Call) (view last : WriterView) → ArePassed calls → Ran step_law view calls last → Ran writer_law view calls last
ran_passed [] view last passed ran = ran
ran_passed (call ∷ calls) view last passed ran = ((ran.0, passed.0), ran_passed calls (step_law.after view call) last passed.1 ran.1)

stopped_passed : (old new : Standing WriterView) (calls : List Call) (refuses : Bool) (view : WriterView) → ArePassed calls
    → StoppedIn step_law old new view calls refuses → StoppedIn writer_law old new view calls refuses
stopped_passed old new [] refuses view passed stopped = stopped
stopped_passed old new (call ∷ calls) refuses view passed (inl stop) = inl (cause_passed view call old new stop.0, stop.1)
stopped_passed old new (call ∷ calls) refuses view passed (inr later) =
    inr ((later.0, passed.0), stopped_passed old new calls refuses (step_law.after view call) passed.1 later.1)

pub emits_passed : (r : Result (Unit {0}) Error) (old new : Standing WriterView) (e : Emission) → ArePassed e.calls → Emits step_law r old e new → Emits writer_law r old e new
emits_passed (Ok done) old new e passed s = record { willing = s.willing; ran = ran_passed e.calls old.view new.view passed s.ran; faults = s.faults; wants = s.wants }
emits_passed (Err refusal) old new e passed s =
    record { stopped = stopped_passed old new e.calls e.refuses old.view passed s.stopped; faults = s.faults; wants = s.wants }

-- a text of one fragment, and one that is a key
pub text_passed : (r : Result (Unit {0}) Error) (old new : Standing WriterView) (size : Option ℕ) (text : List ℕ) → IsUtf8 text
    → Emits step_law r old (makes (whole_text_calls size text)) new → Emits writer_law r old (makes (whole_text_calls size text)) new
text_passed r old new size text u e = emits_passed r old new (makes (whole_text_calls size text)) ((tt, tt), ((u, tt), ((tt, tt), tt))) e

pub key_passed : (r : Result (Unit {0}) Error) (old new : Standing WriterView) (size : Option ℕ) (text : List ℕ) → IsUtf8 text
    → Emits step_law r old (makes (whole_key_calls size text)) new → Emits writer_law r old (makes (whole_key_calls size text)) new
key_passed r old new size text u e = emits_passed r old new (makes (whole_key_calls size text)) ((tt, tt), ((tt, tt), ((u, tt), ((tt, tt), ((tt, tt), tt))))) e

each_real : (calls : List Call) → ArePassed calls → AllByRecursion IsRealCall calls
each_real [] passed = tt
each_real (call ∷ calls) passed = (passed.0.0, each_real calls passed.1)

-- the tree that passed calls spell is real
pub passed_real : (calls : List Call) (tree : Tree) → ArePassed calls → Spells calls tree → IsReal tree
passed_real calls tree passed spells = real_calls-real_tree calls tree (each_real calls passed) spells

-- what was taken was passed
pub ran_is_passed : (calls : List Call) (view last : WriterView) → Ran writer_law view calls last → ArePassed calls
ran_is_passed [] view last ran = tt
ran_is_passed (call ∷ calls) view last ran = (ran.0.1, ran_is_passed calls (writer_law.after view call) last ran.1)
