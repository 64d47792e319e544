use Rattle.std.proofs.Common.{◌≡◌, drop, map, string_bytes}
use Rattle.std.specs.List.{list_any}
use Rattle.sval_label.specs.Texts.{is_empty}
use Rattle.sval_tool.proofs.path_word.is_some_empty.Given as goal

-- the labels that are left decide
abbrev pub invariant-loop-label : goal.invariant-loop-label
invariant-loop-label l = list_any is_empty (map string_bytes (drop l.label-index l.labels)) ≡ list_any is_empty (map string_bytes l.labels)
