use Rattle.std.proofs.Common.{◌≡◌, take, map, string_bytes}
use Rattle.sval_filter.specs.Paths.{labels_of}
use Rattle.sval_filter.proofs.form.paths_of.Given as goal

-- the paths of the words so far
abbrev pub invariant-loop-word : goal.invariant-loop-word
invariant-loop-word l = l.paths ≡ map labels_of (map string_bytes (take l.word-index l.words))
