use Rattle.std.proofs.Common.{length}
use Rattle.sval_script.specs.LineCalls.{stored}
use Rattle.sval_script.specs.ReadLines.{line_calls}
use Rattle.sval_script.proofs.ScriptPieces.{IsReadUpTo}
use Rattle.sval_script.proofs.reader.read_lines.Given as goal

abbrev pub invariant-loop-rest : goal.invariant-loop-rest
invariant-loop-rest l = IsReadUpTo (line_calls l.initial.lines.items (stored l.initial.store)) l.bytes l.rest (stored l.store) l.lines.items

abbrev pub decreases-loop-rest : goal.decreases-loop-rest
decreases-loop-rest l = length l.rest
