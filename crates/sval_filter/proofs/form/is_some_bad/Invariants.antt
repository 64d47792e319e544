use Rattle.std.proofs.Common.{◌≡◌, drop, map, string_bytes}
use Rattle.std.specs.List.{list_any}
use Rattle.sval_filter.specs.Paths.{is_bad_word}
use Rattle.sval_filter.proofs.form.is_some_bad.Given as goal

-- the words that are left decide
abbrev pub invariant-loop-word : goal.invariant-loop-word
invariant-loop-word l = list_any is_bad_word (map string_bytes (drop l.word-index l.words)) ≡ list_any is_bad_word (map string_bytes l.words)
