use Rattle.sval_whole.proofs.laws.whole_laws.Goals as goal
use Rattle.sval_whole.proofs.WholeLaws.{one_write_answer}

pub returns : goal.returns
returns c = record { one_write_answer = one_write_answer }
