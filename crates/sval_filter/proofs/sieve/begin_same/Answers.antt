use Rattle.sval_filter.proofs.sieve.begin_same.Goals as goal

pub returns : goal.returns
returns g c = rw c.twice-call.ensures at c.begin.ensures
