use Rattle.std.proofs.Common.{true, List, drop}
use Rattle.sval_core.specs.Trees.{Tree}
use Rattle.sval_relay.specs.Verdict.{asked_in, ending}
use Rattle.sval_relay.specs.WrittenTrees.{AreTrees}
use Rattle.sval_relay.proofs.ListSteps.{IsServedTo}
use Rattle.sval_relay.proofs.lists.write_list.Given as goal

-- whichever the trees are, those up to here were served
abbrev pub invariant-loop-to : goal.invariant-loop-to
invariant-loop-to g l =
    (trees : List Tree) → AreTrees l.fn.lines l.fn.ends trees
    → IsServedTo (asked_in l.fn.way) (ending (asked_in l.fn.way) true) trees (g.K.Sink.told l.fn.out) (g.K.Sink.told l.out) l.from l.rest (drop l.to-index l.fn.ends)
