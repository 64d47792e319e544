use Rattle.std.proofs.Common.{sym, subst}
use Rattle.sval_c.specs.Due.{CompactOf, CompactDue}
use Rattle.sval_c.specs.Lacks.{IsLacking}
use Rattle.sval_c.proofs.Texts.{unread}
use Rattle.sval_c.proofs.from_json.compact.Goals as goal

pub json_of-requires : goal.json_of-requires
json_of-requires c = (c.args.input.now, c.in-Ok.ensures.ok)

pub returns-in-Ok : goal.returns-in-Ok
returns-in-Ok c = c.json_of.ensures c.args.input.now c.in-Ok.ensures.ok

pub returns-in-Err : goal.returns-in-Err
returns-in-Err c = subst (IsLacking (CompactDue c.args.input.now)) (sym c.of_json.ensures) (unread CompactOf c.args.input.now c.in-Err.error c.in-Err.ensures.err)
