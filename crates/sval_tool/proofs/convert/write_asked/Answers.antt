use Rattle.std.proofs.Common.{sym, subst}
use Rattle.std.proofs.lemmas.Result.{err_from_is_err_and}
use Rattle.sval_tool.specs.Conversions.{IsDocumentDue, IsDocumentCause}
use Rattle.sval_tool.specs.declared.convert.Target.TheVariants as target
use Rattle.sval_tool.specs.declared.error.DocumentError.{DocumentError}
use Rattle.sval_tool.proofs.DocumentCauses.{left_done, left_stopped, cbor_done, cbor_stopped, known_refusal}
use Rattle.sval_tool.proofs.convert.write_asked.Goals as goal

pub returns-in_ok-write_left-in-Json : goal.returns-in_ok-write_left-in-Json
returns-in_ok-write_left-in-Json g c = λ input r.
    left_done c.args.conversion.now input target.Json (g.K.Sink.told c.args.out.now) (g.K.Sink.told c.write_left.new.out) c.in-Json.is (c.in_ok-write_left-in-Json.ensures input r)

pub returns-in_err-write_left-in-Json : goal.returns-in_err-write_left-in-Json
returns-in_err-write_left-in-Json g c = λ input r.
    let p = err_from_is_err_and c.from_residual.result c.from_residual.ensures.1 in
    rw (p.1, p.2) (left_stopped c.args.conversion.now input g.K.Sink.told target.Json c.args.out.now c.write_left.new.out c.in_err-write_left-in-Json.field-0.0 c.in-Json.is (c.in_err-write_left-in-Json.ensures input r))

pub returns-in_ok-write_laid_out-in-Pretty : goal.returns-in_ok-write_laid_out-in-Pretty
returns-in_ok-write_laid_out-in-Pretty g c = λ input r.
    left_done c.args.conversion.now input target.Pretty (g.K.Sink.told c.args.out.now) (g.K.Sink.told c.write_laid_out.new.out) c.in-Pretty.is (c.in_ok-write_laid_out-in-Pretty.ensures input r)

pub returns-in_err-write_laid_out-in-Pretty : goal.returns-in_err-write_laid_out-in-Pretty
returns-in_err-write_laid_out-in-Pretty g c = λ input r.
    let p = err_from_is_err_and c.from_residual-in_err-write_laid_out-in-Pretty.result c.from_residual-in_err-write_laid_out-in-Pretty.ensures.1 in
    rw (p.1, p.2) (left_stopped c.args.conversion.now input g.K.Sink.told target.Pretty c.args.out.now c.write_laid_out.new.out c.in_err-write_laid_out-in-Pretty.field-0.0 c.in-Pretty.is (c.in_err-write_laid_out-in-Pretty.ensures input r))

pub returns-in-Ok : goal.returns-in-Ok
returns-in-Ok g c = λ input r.
    cbor_done c.args.conversion.now input c.args.doc.now r c.in-Cbor.is (g.K.Sink.told c.args.out.now) (g.K.Sink.told c.write_left_cbor.new.out) (c.in-Ok.ensures input r)

pub of_pack-requires : goal.of_pack-requires
of_pack-requires g c =
    let (input, r) = c.requires in
    known_refusal c.args.conversion.now input c.args.doc.now r c.in-Cbor.is g.K.Sink.told c.in-Err.why c.args.out.now c.write_left_cbor.new.out (c.in-Err.ensures input r)

pub returns-in-Err : goal.returns-in-Err
returns-in-Err g c = λ input r.
    subst (λ (why : DocumentError). IsDocumentCause g.K.Sink.told c.args.conversion.now (IsDocumentDue c.args.conversion.now input) input why c.args.out.now c.write_left_cbor.new.out) (sym c.of_pack.ensures)
    (cbor_stopped c.args.conversion.now input c.args.doc.now r c.in-Cbor.is g.K.Sink.told c.in-Err.why c.args.out.now c.write_left_cbor.new.out (c.in-Err.ensures input r))
