use Rattle.std.proofs.Common.{sym, subst}
use Rattle.sval_json_read.specs.Calls.{document_calls}
use Rattle.sval_c.specs.Due.{CompactDue}
use Rattle.sval_c.specs.Lacks.{IsLacking}
use Rattle.sval_c.proofs.Texts.{compacted, only_want}
use Rattle.sval_c.proofs.from_json.json_of.Goals as goal

pub returns-in-Ok : goal.returns-in-Ok
returns-in-Ok c = λ input r. compacted input (document_calls c.args.doc.now) r c.in-Ok.json.items c.in-Ok.ensures

pub want-requires : goal.want-requires
want-requires c = let (input, r) = c.requires in only_want input (document_calls c.args.doc.now) r c.in-Err.error c.in-Err.ensures

pub returns-in-Err : goal.returns-in-Err
returns-in-Err c = λ input r. subst (IsLacking (CompactDue input)) (sym c.want.ensures) tt
