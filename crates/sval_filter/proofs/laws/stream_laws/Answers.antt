use Rattle.sval_filter.proofs.laws.stream_laws.Goals as goal
use Rattle.sval_filter.proofs.Filtered.{inner_takes_pruned, takes_trees}
use Rattle.sval_filter.proofs.TakenCalls.{stands_for_taken}
use Rattle.sval_filter.proofs.Refusals.{refuses_with_cause}

pub returns-clause-inner_takes_pruned : goal.returns-clause-inner_takes_pruned
returns-clause-inner_takes_pruned c start = inner_takes_pruned _

pub returns-clause-takes_trees : goal.returns-clause-takes_trees
returns-clause-takes_trees c start = takes_trees _

pub returns-clause-refuses_with_cause : goal.returns-clause-refuses_with_cause
returns-clause-refuses_with_cause c start = refuses_with_cause _

pub returns-clause-stands_for_taken : goal.returns-clause-stands_for_taken
returns-clause-stands_for_taken c start = stands_for_taken _
