use Rattle.sval_check.proofs.laws.list_check_laws.Goals as goal
use Rattle.sval_check.proofs.ManyAnswers.{one_list_answer}

pub returns : goal.returns
returns c = record { one_answer = one_list_answer }
