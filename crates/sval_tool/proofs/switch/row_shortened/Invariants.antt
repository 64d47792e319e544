use Rattle.std.proofs.Common.{◌≡◌, drop, map}
use Rattle.sval_tool.specs.Switches.{option_rows, row_shortened, seen_row}
use Rattle.sval_tool.proofs.switch.row_shortened.Given as goal

-- the rows that are left decide
abbrev pub invariant-loop-row : goal.invariant-loop-row
invariant-loop-row l = row_shortened l.letters (map seen_row (drop l.row-index l.table)) ≡ row_shortened l.letters option_rows
