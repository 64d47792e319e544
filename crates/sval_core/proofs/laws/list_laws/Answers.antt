use Rattle.sval_core.proofs.laws.list_laws.Goals as goal
use Rattle.sval_core.proofs.ManySpellings.{one_list, one_is_list, list_is_one, list_front_is_viable, list_spelling_is_viable}
use Rattle.sval_core.proofs.ManySlices.{ends_cut_trees}
use Rattle.sval_core.proofs.ManyTaken.{viable_list_is_taken, taken_list_is_viable, one_progress, ends_with_trees, trees_end, one_list_of_ends}

pub returns-clause-one_list : goal.returns-clause-one_list
returns-clause-one_list c = one_list

pub returns-clause-one_tree_is_a_list : goal.returns-clause-one_tree_is_a_list
returns-clause-one_tree_is_a_list c = λ calls t. (one_is_list calls t, list_is_one calls t)

pub returns-clause-list_fronts_are_viable : goal.returns-clause-list_fronts_are_viable
returns-clause-list_fronts_are_viable c = list_front_is_viable

pub returns-clause-list_spellings_are_viable : goal.returns-clause-list_spellings_are_viable
returns-clause-list_spellings_are_viable c = list_spelling_is_viable

pub returns-clause-machine_takes_the_viable_lists : goal.returns-clause-machine_takes_the_viable_lists
returns-clause-machine_takes_the_viable_lists c = λ calls. (viable_list_is_taken calls, taken_list_is_viable calls)

pub returns-clause-one_state_after_a_list : goal.returns-clause-one_state_after_a_list
returns-clause-one_state_after_a_list c = one_progress

pub returns-clause-machine_ends_on_lists : goal.returns-clause-machine_ends_on_lists
returns-clause-machine_ends_on_lists c = λ calls now r. (ends_with_trees calls now r, trees_end calls now r)

pub returns-clause-one_list_of_ends : goal.returns-clause-one_list_of_ends
returns-clause-one_list_of_ends c = one_list_of_ends

pub returns-clause-ends_cut_trees : goal.returns-clause-ends_cut_trees
returns-clause-ends_cut_trees c = ends_cut_trees
