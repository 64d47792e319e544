use Rattle.sval_script.proofs.PrintedPieces.{unnamed}
use Rattle.sval_script.proofs.printer.fields.head_fields.Goals as goal

pub returns-in-Seq : goal.returns-in-Seq
returns-in-Seq g c = unnamed (g.K.Sink.told c.args.sink.now) c.args.head c.in-Seq.is
