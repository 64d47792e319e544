use Rattle.std.specs.Prelude.{take}
use Rattle.sval_core.specs.OneValue.{EachIsOneValue}
use Rattle.sval_core.proofs.values.sequences.are_surely_whole.Given as goal

abbrev pub invariant-loop-item : goal.invariant-loop-item
invariant-loop-item g l = EachIsOneValue g.T.Value.emission (take l.item-index l.items)
