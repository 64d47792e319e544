use Rattle.sval_core.proofs.value_laws.joining_laws.Goals as goal
use Rattle.sval_core.proofs.Joining.{associate, silent_first, silent_last, parts_join}

pub returns-clause-associate : goal.returns-clause-associate
returns-clause-associate g c = associate

pub returns-clause-silent_is_unit : goal.returns-clause-silent_is_unit
returns-clause-silent_is_unit g c = λ e. (silent_first e, silent_last e)

pub returns-clause-parts_join : goal.returns-clause-parts_join
returns-clause-parts_join g c = λ emission. parts_join emission
