use Rattle.sval_check.proofs.TokensMatch.{SameFront}
use Rattle.sval_check.proofs.matching.all_equal.Given as goal

abbrev pub invariant-loop-index : goal.invariant-loop-index
invariant-loop-index l = SameFront l.tokens l.expected l.index
