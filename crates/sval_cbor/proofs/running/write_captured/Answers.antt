use Rattle.sval_cbor.specs.Writing.{written_cbor}
use Rattle.sval_cbor.proofs.ScriptAnswers.{writes_whole, write_fails, of_writing}
use Rattle.sval_cbor.proofs.running.write_captured.Goals as goal

pub returns-in-Ok : goal.returns-in-Ok
returns-in-Ok g c = λ script verdict. writes_whole g.K.Sink.told script c.args.out.now c.write_value.new.out (written_cbor (g.V.Value.emission c.args.v.now).calls) verdict c.in-Ok.ensures.due

pub unwritten-requires : goal.unwritten-requires
unwritten-requires g c = of_writing (written_cbor (g.V.Value.emission c.args.v.now).calls) c.in-Err.error (g.K.Sink.told c.args.out.now) (g.K.Sink.told c.write_value.new.out) c.in-Err.ensures.due

pub returns-in-Err : goal.returns-in-Err
returns-in-Err g c = λ script verdict.
    write_fails g.K.Sink.told script c.args.out.now c.write_value.new.out (written_cbor (g.V.Value.emission c.args.v.now).calls) c.in-Err.error c.unwritten.result c.unwritten.ensures verdict c.in-Err.ensures.due c.in-Err.ensures.left
