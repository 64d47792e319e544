use Rattle.sval_check.proofs.laws.check_laws.Goals as goal
use Rattle.sval_check.proofs.AnswersDue.{one_answer}

pub returns : goal.returns
returns c = record { one_answer = one_answer }
