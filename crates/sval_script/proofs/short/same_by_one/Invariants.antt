use Rattle.sval_script.specs.Runs.{SameFrom}
use Rattle.sval_script.proofs.short.same_by_one.Given as goal

abbrev pub invariant-loop-i : goal.invariant-loop-i
invariant-loop-i l = SameFrom 0 l.i l.a l.b
