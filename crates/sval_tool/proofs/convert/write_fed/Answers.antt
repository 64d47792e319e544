use Rattle.std.proofs.lemmas.Result.{err_from_is_err_and}
use Rattle.sval_tool.proofs.DocumentCauses.{fed_cause, feed_done, feed_stopped}
use Rattle.sval_tool.proofs.convert.write_fed.Goals as goal

pub returns-in_err-write_document-clause-err : goal.returns-in_err-write_document-clause-err
returns-in_err-write_document-clause-err g c =
    let p = err_from_is_err_and c.from_residual.result c.from_residual.ensures.1 in
    rw (p.1, p.2) (fed_cause c.args.conversion.now c.args.bytes.now g.K.Sink.told c.in_err-write_document.field-0.0 c.args.out.now c.write_document.new.out c.in_err-write_document.ensures.err)

pub returns-in_err-write_ending-clause-err : goal.returns-in_err-write_ending-clause-err
returns-in_err-write_ending-clause-err g c =
    let p = err_from_is_err_and c.from_residual-in_err-write_ending.result c.from_residual-in_err-write_ending.ensures.1 in
    rw (p.1, p.2) (feed_stopped c.args.conversion.now c.args.bytes.now g.K.Sink.told c.args.out.now c.write_ending.new.out (g.K.Sink.told c.write_document.new.out) c.in_err-write_ending.field-0.0
    c.in_ok-write_document.ensures.ok c.in_err-write_ending.ensures)

pub returns-clause-ok : goal.returns-clause-ok
returns-clause-ok g c =
    feed_done c.args.conversion.now c.args.bytes.now (g.K.Sink.told c.args.out.now) (g.K.Sink.told c.write_document.new.out) (g.K.Sink.told c.write_ending.new.out) c.in_ok-write_document.ensures.ok c.in_ok-write_ending.ensures
