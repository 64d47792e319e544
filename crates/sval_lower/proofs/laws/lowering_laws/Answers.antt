use Rattle.sval_lower.specs.Lowered.{is_base, lowered}
use Rattle.sval_lower.proofs.laws.lowering_laws.Goals as goal
use Rattle.sval_lower.proofs.BaseTrees.{base_tree_is_told}
use Rattle.sval_lower.proofs.LoweredCalls.{lowers_to, to_one, leaves, stay, kept_alone, replaced_alone}

pub returns-clause-lowering_ends : goal.returns-clause-lowering_ends
returns-clause-lowering_ends c = λ taken calls takes. lowers_to taken takes calls

pub returns-clause-lowers_to_one : goal.returns-clause-lowers_to_one
returns-clause-lowers_to_one c = λ taken calls result d. to_one taken d

pub returns-clause-leaves_taken : goal.returns-clause-leaves_taken
returns-clause-leaves_taken c = λ taken calls takes. leaves taken (lowers_to taken takes calls)

pub returns-clause-leaves_base : goal.returns-clause-leaves_base
returns-clause-leaves_base c = λ calls. leaves is_base (lowers_to is_base (λ call e. e) calls)

pub returns-clause-keeps_taken : goal.returns-clause-keeps_taken
returns-clause-keeps_taken c = kept_alone

pub returns-clause-lowers_by_step : goal.returns-clause-lowers_by_step
returns-clause-lowers_by_step c = replaced_alone

pub returns-clause-lowered_twice : goal.returns-clause-lowered_twice
returns-clause-lowered_twice c = λ taken calls takes. stay taken (lowered taken calls) (leaves taken (lowers_to taken takes calls))

pub returns-clause-base_tree_is_told : goal.returns-clause-base_tree_is_told
returns-clause-base_tree_is_told c = base_tree_is_told
