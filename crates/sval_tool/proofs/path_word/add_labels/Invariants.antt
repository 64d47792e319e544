use Rattle.std.proofs.Common.{◌≡◌, ◌+◌, [], ◌∷◌, ◌++◌, map, take, string_bytes}
use Rattle.sval_tool.proofs.path_word.add_labels.Given as goal

-- the path of the first label and of those so far
abbrev pub invariant-loop-label : goal.invariant-loop-label
invariant-loop-label l = l.paths ≡ l.fn.paths ++ (map string_bytes (take (l.label-index + 1) l.labels) ∷ [])
