use Rattle.std.proofs.Common.{length}
use Rattle.sval_script.proofs.PrintedPieces.{AreDue}
use Rattle.sval_json_read.proofs.script_pieces.write_hex.Given as goal

abbrev pub invariant-loop-rest : goal.invariant-loop-rest
invariant-loop-rest g l = AreDue l.bytes (g.K.Sink.told l.initial.out) l.rest (g.K.Sink.told l.out)

abbrev pub decreases-loop-rest : goal.decreases-loop-rest
decreases-loop-rest g l = length l.rest
