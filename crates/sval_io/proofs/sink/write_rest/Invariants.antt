use Rattle.std.proofs.Common.{length}
use Rattle.sval_io.proofs.Pieces.{IsPartlyWritten}
use Rattle.sval_io.proofs.sink.write_rest.Given as goal

abbrev pub invariant-loop-rest : goal.invariant-loop-rest
invariant-loop-rest g l = IsPartlyWritten (g.K.Sink.told l.initial.sink) l.piece l.rest (g.K.Sink.told l.sink)

abbrev pub decreases-loop-rest : goal.decreases-loop-rest
decreases-loop-rest g l = length l.rest
