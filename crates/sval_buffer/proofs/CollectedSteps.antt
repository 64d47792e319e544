-- Steps without lower calls do what the lowered calls do.
use Rattle.std.specs.Prelude.{◌≡◌, Bool, true, false, List, [], ◌∷◌, ◌++◌, Result, Ok, Err, refl}
use Rattle.std.proofs.Common.{ap, ◌∙◌, sym, append-nil, append_assoc}
use Rattle.sval_label.specs.Calls.{Call}
use Rattle.sval_core.specs.Law.{Emission}
use Rattle.sval_lower.specs.Lowered.{lowered, lowered_call}
use Rattle.sval_buffer.specs.Pushes.{HeldBytes, content, pushed}
use Rattle.sval_buffer.specs.Forest.{no_bytes}
use Rattle.sval_buffer.proofs.Pushes.{content-push}
use Rattle.sval_buffer.specs.declared.error.Word.{Word}
use Rattle.sval_buffer.specs.Collected.{Use, Push, Pass, Unfit, before, pushes_of, collect_answer}
use Rattle.sval_buffer.specs.CollectSteps.{CollectStep, push, steps_of, answer_after}

-- what a lowered call does
abbrev pub step_by : Use → HeldBytes → Result HeldBytes Word
step_by (Push fragment) held = Ok (pushed held fragment)
step_by Pass held = Ok held
step_by (Unfit actual) held = Err actual

abbrev pub use_step : (Call → Use) → CollectStep
use_step use_of held call = step_by (use_of call) held

abbrev push_all : HeldBytes → List HeldBytes → HeldBytes
push_all held [] = held
push_all held (push ∷ pushes) = push_all (pushed held push) pushes

content-push_all : (pushes more : List HeldBytes) → content (pushes ++ more) ≡ push_all (content pushes) more
content-push_all pushes [] = ap content (append-nil pushes)
content-push_all pushes (push ∷ more) =
    ap content (sym (append_assoc pushes (push ∷ []) more)) ∙ content-push_all (pushes ++ push ∷ []) more
    ∙ ap (λ held. push_all held more) (content-push pushes push)

-- the content after pushes, or the kind that doesn't fit
abbrev pushed_onto : HeldBytes → Result (List HeldBytes) Word → Result HeldBytes Word
pushed_onto held (Ok pushes) = Ok (push_all held pushes)
pushed_onto held (Err actual) = Err actual

pub by_uses : (use_of : Call → Use) (calls : List Call) (held : HeldBytes) → steps_of (use_step use_of) held calls ≡ pushed_onto held (pushes_of use_of calls)
unfolding steps_of
by_uses use_of [] held = refl
by_uses use_of (call ∷ calls) held = go (use_of call) (pushes_of use_of calls) (λ next. by_uses use_of calls next)
  where
    go : (u : Use) (rest : Result (List HeldBytes) Word) → ((next : HeldBytes) → steps_of (use_step use_of) next calls ≡ pushed_onto next rest)
        → elim (step_by u held) [ Ok next ↦ steps_of (use_step use_of) next calls | Err actual ↦ Err actual ] ≡ pushed_onto held (before u rest)
    go (Push fragment) (Ok pushes) each = each (pushed held fragment)
    go (Push fragment) (Err actual) each = each (pushed held fragment)
    go Pass rest each = each held
    go (Unfit actual) rest each = refl

pub answers : (expected : Word) (refuses : Bool) (r : Result (List HeldBytes) Word) → answer_after expected refuses (pushed_onto no_bytes r) ≡ collect_answer expected refuses r
answers expected true (Ok pushes) = refl
answers expected false (Ok pushes) = ap Ok (sym (content-push_all [] pushes))
answers expected refuses (Err actual) = refl

abbrev then_steps : CollectStep → Result HeldBytes Word → List Call → Result HeldBytes Word
then_steps step (Ok next) calls = steps_of step next calls
then_steps step (Err actual) calls = Err actual

steps_joined : (step : CollectStep) (first second : List Call) (held : HeldBytes) → steps_of step held (first ++ second) ≡ then_steps step (steps_of step held first) second
unfolding steps_of
steps_joined step [] second held = refl
steps_joined step (call ∷ first) second held = go (step held call) (λ next. steps_joined step first second next)
  where
    go : (r : Result HeldBytes Word) → ((next : HeldBytes) → steps_of step next (first ++ second) ≡ then_steps step (steps_of step next first) second)
        → elim r [ Ok next ↦ steps_of step next (first ++ second) | Err actual ↦ Err actual ]
        ≡ then_steps step (elim r [ Ok next ↦ steps_of step next first | Err actual ↦ Err actual ]) second
    go (Ok next) each = each next
    go (Err actual) each = refl

-- where each call's step is that of its lowered calls, so it is for all calls
pub all_steps : (taken : Call → Bool) (use_of : Call → Use) (step : CollectStep)
    → ((call : Call) (held : HeldBytes) → steps_of (use_step use_of) held (lowered_call taken call) ≡ step held call)
    → (calls : List Call) (held : HeldBytes) → steps_of step held calls ≡ steps_of (use_step use_of) held (lowered taken calls)
unfolding steps_of
all_steps taken use_of step each [] held = refl
all_steps taken use_of step each (call ∷ calls) held =
    go (step held call) (λ next. all_steps taken use_of step each calls next)
    ∙ ap (λ r. then_steps (use_step use_of) r (lowered taken calls)) (sym (each call held))
    ∙ sym (steps_joined (use_step use_of) (lowered_call taken call) (lowered taken calls) held)
  where
    go : (r : Result HeldBytes Word) → ((next : HeldBytes) → steps_of step next calls ≡ steps_of (use_step use_of) next (lowered taken calls))
        → elim r [ Ok next ↦ steps_of step next calls | Err actual ↦ Err actual ] ≡ then_steps (use_step use_of) r (lowered taken calls)
    go (Ok next) each = each next
    go (Err actual) each = refl

-- what is collected is what the steps answer, where each call's step is that of its lowered calls
pub steps_collect : (expected : Word) (taken : Call → Bool) (use_of : Call → Use) (step : CollectStep)
    → ((call : Call) (held : HeldBytes) → steps_of (use_step use_of) held (lowered_call taken call) ≡ step held call)
    → (e : Emission) → answer_after expected e.refuses (steps_of step no_bytes e.calls) ≡ collect_answer expected e.refuses (pushes_of use_of (lowered taken e.calls))
steps_collect expected taken use_of step each e =
    ap (answer_after expected e.refuses) (all_steps taken use_of step each e.calls no_bytes ∙ by_uses use_of (lowered taken e.calls) no_bytes)
    ∙ answers expected e.refuses (pushes_of use_of (lowered taken e.calls))
