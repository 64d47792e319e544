use Rattle.std.proofs.Common.{length}
use Rattle.sval_json.proofs.EscapedPieces.{IsAtRun}
use Rattle.sval_json.proofs.escape.write_runs.Given as goal

abbrev pub invariant-loop-run : goal.invariant-loop-run
invariant-loop-run g l = IsAtRun (g.K.Sink.told l.initial.sink) l.bytes l.rest l.run (g.K.Sink.told l.sink)

abbrev pub decreases-loop-run : goal.decreases-loop-run
decreases-loop-run g l = length l.rest
