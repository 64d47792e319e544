use Rattle.std.proofs.Common.{length}
use Rattle.sval_json.proofs.Readings.{then_writes}
use Rattle.sval_cbor.specs.Cbor.{head_bytes}
use Rattle.sval_cbor.proofs.head.write_text.Goals as goal

pub returns : goal.returns
returns g c = then_writes c.write_in_place.result (head_bytes 3 (length c.args.text.now)) c.args.text.now (g.K.Sink.told c.write_in_place.new.sink) c.in_ok-write_head.ensures c.write_in_place.ensures.writes
