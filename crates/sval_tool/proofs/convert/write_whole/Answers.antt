use Rattle.sval_tool.proofs.LeftWritten.{whole_written}
use Rattle.sval_tool.proofs.convert.write_whole.Goals as goal

pub returns : goal.returns
returns g c = λ input r.
    whole_written input c.args.doc.now r (g.K.Sink.told c.args.out.now) (g.K.Sink.told c.write_json.new.out) c.write_json.result (λ json shape. c.write_json.ensures.json input r json shape)
