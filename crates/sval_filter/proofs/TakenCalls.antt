-- The state of a filter is the one that the calls keep which it took.
use Rattle.std.specs.Prelude.{List, [], ◌∷◌, ◌++◌}
use Rattle.std.proofs.Common.{sym, subst, append_assoc, append-nil}
use Rattle.sval_label.specs.Calls.{Call}
use Rattle.sval_core.specs.Checker.{State}
use Rattle.sval_core.specs.Law.{Law}
use Rattle.sval_check.specs.Checked.{StandsFor}
use Rattle.sval_check.proofs.SoFar.{none_so_far, appended}
use Rattle.sval_filter.specs.Paths.{Path, Rule}
use Rattle.sval_filter.specs.FilterLaw.{FilterView, new_filter, filter_after, Took, none, takes, refuses}
use Rattle.sval_filter.specs.Laws.{StandsForTaken}

stands_on : {V : Type 0} (law : Law V) (rule : Rule) (paths : List Path) (view last : FilterView V) (before calls : List Call)
    → StandsFor view.state before → Took law rule paths view calls last → StandsFor last.state (before ++ calls)
stands_on law rule paths view last before [] so_far none = subst (λ cs. StandsFor view.state cs) (sym (append-nil before)) so_far
stands_on law rule paths view last before (call ∷ calls) so_far (takes accepted later) =
    subst (λ cs. StandsFor last.state cs) (append_assoc before (call ∷ []) calls)
    (stands_on law rule paths (filter_after law rule paths view call) last (before ++ (call ∷ [])) calls (appended view.state before call so_far accepted.goes.viable) later)
stands_on law rule paths view last before calls so_far (refuses {left = left} call kept still later) =
    stands_on law rule paths left last before calls (subst (λ (s : State). StandsFor s before) (sym kept.state) so_far) later

pub stands_for_taken : {V : Type 0} (law : Law V) → StandsForTaken law
stands_for_taken law rule paths calls inner last took = stands_on law rule paths (new_filter inner) last [] calls none_so_far took
