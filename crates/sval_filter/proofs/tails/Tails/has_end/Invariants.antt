use Rattle.std.proofs.Common.{◌≡◌, drop}
use Rattle.sval_filter.specs.Paths.{tails, has_end}
use Rattle.sval_filter.specs.SeenLayers.{seen_tails}
use Rattle.sval_filter.proofs.tails.Tails.has_end.Given as goal

-- what is left to look at decides
abbrev pub invariant-loop-index : goal.invariant-loop-index
invariant-loop-index l = has_end (tails l.label (drop l.index (seen_tails l.self))) ≡ has_end (tails l.label (seen_tails l.self))
