use Rattle.std.proofs.Common.{length}
use Rattle.sval_json.proofs.Readings.{then_writes}
use Rattle.sval_cbor.specs.Cbor.{head_bytes}
use Rattle.sval_cbor.proofs.head.write_byte_string.Goals as goal

pub returns : goal.returns
returns g c = then_writes c.write_all.result (head_bytes 2 (length c.args.bytes.now)) c.args.bytes.now (g.K.Sink.told c.write_all.new.sink) c.in_ok-write_head.ensures c.write_all.ensures.writes
