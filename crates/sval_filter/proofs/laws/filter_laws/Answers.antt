use Rattle.sval_filter.proofs.laws.filter_laws.Goals as goal
use Rattle.sval_filter.proofs.PrunedGood.{pruned_good, pruned_real}
use Rattle.sval_filter.proofs.NothingDropped.{drop_nothing}
use Rattle.sval_filter.proofs.DueCalls.{due_spells_pruned}

pub returns-clause-pruned_is_good : goal.returns-clause-pruned_is_good
returns-clause-pruned_is_good c = pruned_good

pub returns-clause-pruned_is_real : goal.returns-clause-pruned_is_real
returns-clause-pruned_is_real c = pruned_real

pub returns-clause-due_calls_spell_pruned : goal.returns-clause-due_calls_spell_pruned
returns-clause-due_calls_spell_pruned c = due_spells_pruned

pub returns-clause-nothing_dropped : goal.returns-clause-nothing_dropped
returns-clause-nothing_dropped c = drop_nothing
