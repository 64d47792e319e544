use Rattle.std.proofs.Common.{◌≡◌, drop, map}
use Rattle.sval_tool.specs.Switches.{option_rows, row_named, seen_row}
use Rattle.sval_tool.proofs.switch.row_named.Given as goal

-- the rows that are left decide
abbrev pub invariant-loop-row : goal.invariant-loop-row
invariant-loop-row l = row_named l.name (map seen_row (drop l.row-index l.table)) ≡ row_named l.name option_rows
