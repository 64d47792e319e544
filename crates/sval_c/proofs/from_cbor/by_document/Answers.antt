use Rattle.std.proofs.Common.{sym, subst}
use Rattle.sval_c.specs.Due.{JsonOfCborDue}
use Rattle.sval_c.specs.Lacks.{IsLacking}
use Rattle.sval_c.proofs.Items.{unread}
use Rattle.sval_c.proofs.from_cbor.by_document.Goals as goal

pub returns-in-Err : goal.returns-in-Err
returns-in-Err c = subst (IsLacking (JsonOfCborDue c.args.input.now)) (sym c.of_cbor.ensures) (unread c.args.input.now c.in-Err.error c.in-Err.ensures.err)
