-- A value that is checked for one tree has one answer that is due.
use Rattle.std.specs.Prelude.{◌≡◌, ℕ, ◌+◌, ◌-◌, ◌^◌, min, Bool, true, false, List, [], ◌∷◌, ◌++◌, length, Option, Some, None, Ok, Err, refl}
use Rattle.std.proofs.Common.{sym, ap, ◌∙◌, append_assoc, append-nil}
use Rattle.sval_label.specs.Calls.{Call}
use Rattle.sval_core.specs.Law.{Emission}
use Rattle.sval_core.specs.Checker.{State}
use Rattle.sval_core.specs.CheckerSteps.{next, unfilled, is_whole_tree}
use Rattle.sval_core.proofs.StepLaws.{viable_is_next, next_is_viable, whole_decides}
use Rattle.sval_check.specs.declared.error.CheckError.TheVariants as error
use Rattle.sval_check.specs.Checked.{StandsFor}
use Rattle.sval_check.specs.Checks.{CheckAnswer, IsCheckDue}
use Rattle.sval_check.proofs.SoFar.{none_so_far}
use Rattle.sval_check.proofs.OneAnswer.{one_due}

-- all calls were taken
of_whole : (e : Emission) (state : State) (whole : Bool) → StandsFor state e.calls → e.refuses ≡ false → is_whole_tree state ≡ whole → (due : CheckAnswer) × IsCheckDue e due
of_whole e state true so_far willing is = (Ok tt, record { willing = willing; spells = (whole_decides e.calls state so_far.keeps).0 is })
of_whole e state false so_far willing is = (
  Err error.Unfinished,
  record {
    viable = so_far.viable;
    willing = willing;
    no_tree = λ tree spells. let never : true ≡ false = sym ((whole_decides e.calls state so_far.keeps).1 (tree, spells)) ∙ is in cc never;
  },
)

of_taken : (e : Emission) (state : State) (refuses : Bool) → StandsFor state e.calls → e.refuses ≡ refuses → (due : CheckAnswer) × IsCheckDue e due
of_taken e state true so_far is = (Err error.Refused, record { viable = so_far.viable; refuses = is })
of_taken e state false so_far is = of_whole e state (is_whole_tree state) so_far is refl

-- some first calls were taken, and these follow
of_rest : (e : Emission) (state : State) (front rest : List Call) → StandsFor state front → e.calls ≡ front ++ rest → (due : CheckAnswer) × IsCheckDue e due
of_rest e state front [] so_far whole = of_taken e state e.refuses (rw (whole, append-nil front) so_far) refl
of_rest e state front (call ∷ rest) so_far whole = by_next (next state call) refl (λ after s w. of_rest e after (front ++ (call ∷ [])) rest s w)
  where
    by_next : (after : Option State) → next state call ≡ after
        → ((after : State) → StandsFor after (front ++ (call ∷ [])) → e.calls ≡ (front ++ (call ∷ [])) ++ rest → (due : CheckAnswer) × IsCheckDue e due) → (due : CheckAnswer) × IsCheckDue e due
    by_next (Some after) is later =
        let n = next_is_viable front call state after so_far.keeps is in later after (record { viable = n.0; keeps = n.1 }) (whole ∙ sym (append_assoc front (call ∷ []) rest))
    by_next None is later = (
      Err (error.BadCall (min (length front + 1) (2 ^ 64 - 1))),
      record {
        front = front;
        call = call;
        rest = rest;
        whole = whole;
        before = so_far.viable;
        bad = λ v. let n = viable_is_next front call state so_far.keeps v in let never : None ≡ Some n.0 = sym is ∙ n.1 in cc never;
        number = refl;
      },
    )

pub one_answer : (e : Emission) → (due : CheckAnswer) × IsCheckDue e due × ((other : CheckAnswer) → IsCheckDue e other → due ≡ other)
one_answer e = let d = of_rest e (unfilled []) [] e.calls none_so_far refl in (d.0, d.1, λ other h. one_due e d.0 other d.1 h)
