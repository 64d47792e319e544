use Rattle.sval_buffer.proofs.laws.made_calls_laws.Goals as goal
use Rattle.sval_buffer.proofs.MadeCalls.{holds_taken, keeps_taken, keeps_cause}

pub returns-clause-holds_taken_calls : goal.returns-clause-holds_taken_calls
returns-clause-holds_taken_calls c = holds_taken

pub returns-clause-taken_calls_keep_the_tree : goal.returns-clause-taken_calls_keep_the_tree
returns-clause-taken_calls_keep_the_tree c = keeps_taken

pub returns-clause-keeps_last_cause : goal.returns-clause-keeps_last_cause
returns-clause-keeps_last_cause c = keeps_cause
