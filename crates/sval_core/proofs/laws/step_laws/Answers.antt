use Rattle.sval_core.proofs.laws.step_laws.Goals as goal
use Rattle.sval_core.proofs.CheckerSteps.{next_goes, goes_next}
use Rattle.sval_core.proofs.StepLaws.{viable_is_next, next_is_viable, whole_decides}
use Rattle.sval_core.proofs.ManySteps.{viable_is_next_of_list, next_of_list_is_viable}

pub returns-clause-next_is_the_machine : goal.returns-clause-next_is_the_machine
returns-clause-next_is_the_machine c = λ old new call. (next_goes old new call, goes_next old new call)

pub returns-clause-next_decides : goal.returns-clause-next_decides
returns-clause-next_decides c = λ calls call state k. (viable_is_next calls call state k, λ after e. next_is_viable calls call state after k e)

pub returns-clause-whole_is_a_spelling : goal.returns-clause-whole_is_a_spelling
returns-clause-whole_is_a_spelling c = whole_decides

pub returns-clause-next_of_list_decides : goal.returns-clause-next_of_list_decides
returns-clause-next_of_list_decides c = λ calls call now r. (viable_is_next_of_list calls call now r, λ after k. next_of_list_is_viable calls call now after r k)
