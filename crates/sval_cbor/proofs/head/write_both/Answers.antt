use Rattle.sval_json.proofs.Readings.{then_writes}
use Rattle.sval_cbor.proofs.head.write_both.Goals as goal

pub returns : goal.returns
returns g c = then_writes c.write_all-2.result c.args.first.now c.args.second.now (g.K.Sink.told c.write_all-2.new.sink) c.in_ok-write_all.ensures.writes c.write_all-2.ensures.writes
