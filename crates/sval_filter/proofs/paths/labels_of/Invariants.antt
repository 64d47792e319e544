use Rattle.std.proofs.Common.{◌≡◌, map}
use Rattle.sval_filter.specs.SeenPaths.{labels_in}
use Rattle.sval_filter.proofs.paths.labels_of.Given as goal

-- the path has the pieces so far
abbrev pub invariant-loop-piece : goal.invariant-loop-piece
invariant-loop-piece l = labels_in l.path.items ≡ map (λ piece. piece.now) l.yielded
