use Rattle.std.proofs.Common.{length}
use Rattle.sval_script.proofs.PrintedPieces.{AreDue}
use Rattle.sval_script.proofs.printer.digits.write_hex.Given as goal

abbrev pub invariant-loop-rest : goal.invariant-loop-rest
invariant-loop-rest g l = AreDue l.bytes (g.K.Sink.told l.initial.sink) l.rest (g.K.Sink.told l.sink)

abbrev pub decreases-loop-rest : goal.decreases-loop-rest
decreases-loop-rest g l = length l.rest
