use Rattle.std.proofs.Common.{sym, subst}
use Rattle.sval_c.specs.Due.{CborOf, CborOfTextDue}
use Rattle.sval_c.specs.Lacks.{IsLacking}
use Rattle.sval_c.proofs.Texts.{unread}
use Rattle.sval_c.proofs.from_json.to_cbor.Goals as goal

pub cbor_of-requires : goal.cbor_of-requires
cbor_of-requires c = (c.args.input.now, c.in-Ok.ensures.ok)

pub returns-in-Ok : goal.returns-in-Ok
returns-in-Ok c = c.cbor_of.ensures c.args.input.now c.in-Ok.ensures.ok

pub returns-in-Err : goal.returns-in-Err
returns-in-Err c = subst (IsLacking (CborOfTextDue c.args.input.now)) (sym c.of_json.ensures) (unread CborOf c.args.input.now c.in-Err.error c.in-Err.ensures.err)
