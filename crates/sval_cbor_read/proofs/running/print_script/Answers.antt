use Rattle.std.proofs.Common.{[]}
use Rattle.std.proofs.lemmas.Result.{err_from_is_err_and}
use Rattle.sval_cbor_read.proofs.DueTexts.{writes_script, script_stops}
use Rattle.sval_cbor_read.proofs.running.print_script.Goals as goal

pub returns-in_err-write_script : goal.returns-in_err-write_script
returns-in_err-write_script g c = λ input r m.
    let p = err_from_is_err_and c.from_residual.result c.from_residual.ensures.1 in
    let stops = script_stops input c.args.doc.now r g.K.Sink.told c.args.out.now c.write_script.new.out m c.in_err-write_script.field-0.0 (c.in_err-write_script.ensures input [] r.tree r.item r.same) in
    rw (p.1, p.2) stops

pub returns : goal.returns
returns g c = λ input r m. writes_script input c.args.doc.now r g.K.Sink.told c.args.out.now c.write_script.new.out m (c.in_ok-write_script.ensures input [] r.tree r.item r.same)
