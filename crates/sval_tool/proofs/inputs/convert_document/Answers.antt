use Rattle.std.proofs.Common.{subst, ℕ, List, refl}
use Rattle.std.proofs.lemmas.Result.{err_from_is_err_and}
use Rattle.sval_tool.specs.Conversions.{IsFedDue, WritesDue, IsDocumentCause}
use Rattle.sval_tool.proofs.InputsConverted.{document_unread, document_done, document_stopped}
use Rattle.sval_tool.proofs.inputs.convert_document.Goals as goal

pub returns-in_err-bytes-clause-text : goal.returns-in_err-bytes-clause-text
returns-in_err-bytes-clause-text g c =
    let p = err_from_is_err_and c.from_residual.result c.from_residual.ensures.1 in
    rw (p.1, p.2) (document_unread g.K.Sink.told c.args.conversion.now (g.I.Source.told c.args.source).left (g.I.Source.told c.args.source) (g.I.Source.told c.read_whole.new.source) c.in_err-bytes.field-0.0 c.args.bad.now.items c.args.out.now c.in_err-bytes.ensures.err)

pub returns-in_err-bytes-clause-err : goal.returns-in_err-bytes-clause-err
returns-in_err-bytes-clause-err g c =
    let p = err_from_is_err_and c.from_residual.result c.from_residual.ensures.1 in
    rw (p.1, p.2) (record { last = c.read_whole.new.source; cause = (0, c.in_err-bytes.ensures.err) })

pub returns-in-Ok-clause-text : goal.returns-in-Ok-clause-text
returns-in-Ok-clause-text g c =
    document_done g.K.Sink.told c.args.conversion.now (g.I.Source.told c.args.source).left (g.I.Source.told c.read_whole.new.source).left c.in_ok-bytes.bytes.items c.args.out.now c.write_fed.new.out
    c.in_ok-bytes.ensures.ok.taken (subst (λ (bytes : List ℕ). WritesDue (IsFedDue c.args.conversion.now bytes) (g.K.Sink.told c.args.out.now) (g.K.Sink.told c.write_fed.new.out)) c.as_slice.ensures.value c.in-Ok.ensures.ok)

pub returns-clause-text : goal.returns-clause-text
returns-clause-text g c =
    document_stopped g.K.Sink.told c.args.conversion.now (g.I.Source.told c.args.source).left (g.I.Source.told c.read_whole.new.source).left c.in_ok-bytes.bytes.items _ c.in-Err.why c.args.out.now c.write_fed.new.out
    refl c.in_ok-bytes.ensures.ok.taken (subst (λ (bytes : List ℕ). IsDocumentCause g.K.Sink.told c.args.conversion.now (IsFedDue c.args.conversion.now bytes) bytes c.in-Err.why c.args.out.now c.write_fed.new.out) c.as_slice.ensures.value c.in-Err.ensures.err)

pub returns-clause-err : goal.returns-clause-err
returns-clause-err g c = record { last = c.read_whole.new.source; cause = tt }
