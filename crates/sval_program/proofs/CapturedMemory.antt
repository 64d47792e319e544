-- Capturing calls that spell a tree may take memory: for the first of them.
use Rattle.std.specs.Prelude.{◌≡◌, true, false, List, [], ◌∷◌, Some, refl}
use Rattle.std.proofs.Common.{sym, ap, ◌∙◌, subst}
use Rattle.sval_label.specs.Calls.{Call}
use Rattle.sval_core.specs.Checker.{State, Runs, done, more}
use Rattle.sval_core.specs.CheckerSteps.{unfilled, goes_on}
use Rattle.sval_core.specs.Spells.{Spells, plain_call}
use Rattle.sval_core.specs.StepLaws.{Goes}
use Rattle.sval_core.specs.Trees.{Tree}
use Rattle.sval_core.proofs.CheckerSteps.{goes_taken}
use Rattle.sval_core.proofs.Completions.{spelling_is_run}
use Rattle.sval_core.proofs.Determined.{first_step}
use Rattle.sval_core.proofs.ManyRuns.{plain_some}
use Rattle.sval_buffer.specs.Capture.{IsAccepted}
use Rattle.sval_buffer.specs.Forest.{Forest, CaptureAnswer, Becomes, Rejects, Holds, RefusedAt, empty_forest, take, may_grow, forest, forest_from, is_complete}
use Rattle.sval_buffer.proofs.SameTree.{capture_keeps}
use Rattle.sval_program.specs.Laws.{CapturingTakesMemory}

-- no spelling begins with a call that no value begins with
begins_none : (call : Call) (calls : List Call) (tree : Tree) → plain_call call ≡ Some call → goes_on (unfilled []) call ≡ false → Spells (call ∷ calls) tree → ⊥
begins_none call calls tree plain never spells =
    let run = subst (λ cs. Runs false [] cs true []) (plain_some call call calls plain) (spelling_is_run (call ∷ calls) tree spells) in
    let step = first_step run in
    let next : State = record { filled = step.0; frames = step.1 } in
    let goes : Goes (unfilled []) call next = subst (λ cs. Runs false [] cs step.0 step.1) (sym (plain_some call call [] plain)) (more step.2 done) in
    let both : true ≡ false = sym (goes_taken (unfilled []) next call goes) ∙ never in
    cc both

-- the first call may take memory
first_grows : (call : Call) (calls : List Call) (tree : Tree) → IsAccepted (take empty_forest call) → Spells (call ∷ calls) tree → may_grow empty_forest call ≡ true
unfolding take may_grow
first_grows (Call.TextFragment borrowed bytes) calls tree accepted spells = absurd accepted
first_grows (Call.BinaryFragment borrowed bytes) calls tree accepted spells = absurd accepted
first_grows Call.TextEnd calls tree accepted spells = absurd (begins_none Call.TextEnd calls tree refl refl spells)
first_grows Call.BinaryEnd calls tree accepted spells = absurd (begins_none Call.BinaryEnd calls tree refl refl spells)
first_grows (Call.EnumEnd name) calls tree accepted spells = absurd accepted
first_grows (Call.TaggedEnd name) calls tree accepted spells = absurd accepted
first_grows (Call.End head) calls tree accepted spells = absurd accepted
first_grows (Call.PartEnd slot) calls tree accepted spells = absurd accepted
first_grows call calls tree accepted spells = refl

-- and is taken
first_taken : (call : Call) (calls : List Call) (held : Forest) → forest (call ∷ calls) ≡ Holds held → IsAccepted (take empty_forest call)
unfolding forest_from
first_taken call calls held taken = by_answer (take empty_forest call) taken
  where
    by_answer : (answer : CaptureAnswer) → elim answer [ Becomes next ↦ forest_from next 2 calls | Rejects misfit ↦ RefusedAt 1 misfit ] ≡ Holds held → IsAccepted answer
    by_answer (Becomes next) is = tt
    by_answer (Rejects misfit) is = cc is

none_hold : (held : Forest) → forest [] ≡ Holds held → is_complete held ≡ true → ⊥
unfolding forest_from
none_hold held taken complete =
    let same : Holds empty_forest ≡ Holds held = taken in
    let empty : empty_forest ≡ held = cc same in
    let both : false ≡ true = ap is_complete empty ∙ complete in
    cc both

pub capturing_takes_memory : CapturingTakesMemory
unfolding forest_from
capturing_takes_memory [] tree spells = let (held, kept) = capture_keeps [] tree spells in absurd (none_hold held kept.taken kept.complete)
capturing_takes_memory (call ∷ calls) tree spells =
    let (held, kept) = capture_keeps (call ∷ calls) tree spells in
    let accepted = first_taken call calls held kept.taken in
    record { before = []; call = call; later = calls; calls_are = refl; held = empty_forest; before_taken = refl; accepted = accepted; takes_memory = first_grows call calls tree accepted spells }
