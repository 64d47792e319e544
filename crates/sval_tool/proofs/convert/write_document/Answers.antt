use Rattle.std.proofs.lemmas.Result.{err_from_is_err_and}
use Rattle.sval_tool.specs.Conversions.{IsDocumentDue}
use Rattle.sval_tool.proofs.DocumentCauses.{unread, asked_done, asked_stopped}
use Rattle.sval_tool.proofs.convert.write_document.Goals as goal

pub returns-in_err-doc-clause-err : goal.returns-in_err-doc-clause-err
returns-in_err-doc-clause-err g c =
    let p = err_from_is_err_and c.from_residual.result c.from_residual.ensures.1 in
    rw (p.1, p.2) (unread g.K.Sink.told c.args.conversion.now (IsDocumentDue c.args.conversion.now c.args.bytes.now) c.args.bytes.now c.args.out.now c.in_err-doc.field-0.0 c.in_err-doc.ensures.err)

pub write_asked-requires : goal.write_asked-requires
write_asked-requires g c = (c.args.bytes.now, c.in_ok-doc.ensures.document)

pub returns-clause-ok : goal.returns-clause-ok
returns-clause-ok g c =
    asked_done g.K.Sink.told c.args.conversion.now c.args.bytes.now c.write_asked.result c.args.out.now c.write_asked.new.out
    (c.write_asked.ensures c.args.bytes.now c.in_ok-doc.ensures.document)

pub returns-clause-err : goal.returns-clause-err
returns-clause-err g c =
    asked_stopped g.K.Sink.told c.args.conversion.now c.args.bytes.now c.write_asked.result c.args.out.now c.write_asked.new.out
    (c.write_asked.ensures c.args.bytes.now c.in_ok-doc.ensures.document)
