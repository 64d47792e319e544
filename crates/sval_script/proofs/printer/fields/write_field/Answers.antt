use Rattle.std.proofs.Common.{codes, ◌++◌, ap, append-nil}
use Rattle.sval_script.proofs.PrintedPieces.{goes_on}
use Rattle.sval_script.proofs.printer.fields.write_field.Goals as goal

pub returns : goal.returns
returns g c = goes_on _ c.write_all-2.result (codes " ") c.args.field.now (ap (λ field. codes " " ++ field) (append-nil c.args.field.now)) c.in_ok-write_all.ensures.writes c.write_all-2.ensures.writes
