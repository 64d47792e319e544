use Rattle.sval_check.proofs.TokensEqual.{tokens_decide}
use Rattle.sval_check.proofs.laws.tokens_are_equal.Goals as goal

pub returns : goal.returns
returns c = rw c.eq.ensures (tokens_decide c.args.a.now c.args.b.now)
