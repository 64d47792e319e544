-- What was written where the writer's steps stopped.
use Rattle.std.specs.Prelude.{◌≡◌, List, [], ◌∷◌, ◌++◌, Option, Some, None, refl}
use Rattle.std.proofs.Common.{sym, ap, ◌∙◌, subst, append-nil}
use Rattle.sval_label.specs.Calls.{Call}
use Rattle.sval_json.specs.declared.style.Variants.{Variants}
use Rattle.sval_json.specs.Number.{Refusal}
use Rattle.sval_json.specs.Actions.{writer_start, Outcome, Action, continue, ◌then◌}
use Rattle.sval_json.specs.Steps.{writer_step, writer_steps, written_in}
use Rattle.sval_json.specs.Laws.{WritesOn}
use Rattle.sval_json.proofs.WrittenOnce.{then_assoc}

pub steps_append : (style : Variants) (calls more : List Call) → writer_steps style (calls ++ more) ≡ (writer_steps style calls then writer_steps style more)
steps_append style [] more = refl
steps_append style (call ∷ calls) more =
    ap (λ f. writer_step style call then f) (steps_append style calls more) ∙ sym (then_assoc (writer_step style call) (writer_steps style calls) (writer_steps style more))

pub writes_on : (refusal : Option Refusal) (done : Outcome) (next : Action) → done.refusal ≡ refusal → WritesOn done (continue refusal done next)
writes_on (Some why) done next e = record { begins = ([], sym (append-nil done.written)); refused = λ other is. refl }
writes_on None done next e = record {
  begins = ((next done.state).written, refl);
  refused = λ why is. let none : None ≡ Some why = sym e ∙ is in cc none;
}

-- what is written for the first calls of a list is a first part of what is written for all of it
pub written_as_they_come : (style : Variants) (calls more : List Call) → WritesOn (written_in style calls) (written_in style (calls ++ more))
written_as_they_come style calls more =
    subst (λ (f : Action). WritesOn (written_in style calls) (f writer_start)) (sym (steps_append style calls more))
    (writes_on (written_in style calls).refusal (written_in style calls) (writer_steps style more) refl)
