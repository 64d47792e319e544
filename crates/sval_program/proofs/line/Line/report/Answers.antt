use Rattle.sval_program.proofs.Telling.{tells_whole}
use Rattle.sval_program.proofs.line.Line.report.Goals as goal

pub returns : goal.returns
returns g c = tells_whole c.flush.result c.in_ok-write.ensures c.flush.ensures
