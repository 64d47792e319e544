use Rattle.std.proofs.Common.{◌≡◌, ◌++◌, drop}
use Rattle.sval_filter.specs.Paths.{tails}
use Rattle.sval_filter.specs.SeenPaths.{rests_in}
use Rattle.sval_filter.specs.SeenLayers.{seen_tails}
use Rattle.sval_filter.proofs.tails.Tails.rests.Given as goal

-- the rests so far and those that are left are all
abbrev pub invariant-loop-index : goal.invariant-loop-index
invariant-loop-index l = rests_in l.rests.items ++ tails l.label (drop l.index (seen_tails l.self)) ≡ tails l.label (seen_tails l.self)
