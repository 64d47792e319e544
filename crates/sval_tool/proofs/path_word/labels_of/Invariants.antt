use Rattle.std.proofs.Common.{◌≡◌, ℕ, List, [], ◌++◌, map, string_bytes}
use Rattle.sval_tool.specs.PathWords.{labels_from, left_chars}
use Rattle.sval_tool.proofs.path_word.labels_of.Given as goal

-- the labels so far, and those of whatever follows
abbrev pub invariant-loop-ch : goal.invariant-loop-ch
invariant-loop-ch l = (rest : List ℕ) → map string_bytes l.labels.items ++ labels_from (string_bytes l.label) (left_chars l.escaped rest) ≡ labels_from [] (l.yielded ++ rest)
