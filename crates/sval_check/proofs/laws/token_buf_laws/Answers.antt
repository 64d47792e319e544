use Rattle.sval_check.proofs.Tokens.{keeps_all, takes_all}
use Rattle.sval_check.proofs.laws.token_buf_laws.Goals as goal

pub returns : goal.returns
returns c = record { keeps_all = keeps_all; takes_all = takes_all }
