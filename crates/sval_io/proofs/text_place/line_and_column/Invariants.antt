use Rattle.std.proofs.Common.{◌≤◌, ◌-◌, length}
use Rattle.sval_io.proofs.TextPlaces.{Counts}
use Rattle.sval_io.proofs.text_place.line_and_column.Given as goal

abbrev pub invariant-loop-next : goal.invariant-loop-next
invariant-loop-next l = (l.next ≤ length l.front) × Counts l.front l.next l.lines l.columns

abbrev pub decreases-loop-next : goal.decreases-loop-next
decreases-loop-next l = length l.front - l.next
