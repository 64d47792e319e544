use Rattle.sval_cbor.specs.Cbor.{string}
use Rattle.sval_cbor.proofs.Doing.{does_then}
use Rattle.sval_cbor.proofs.writer.Writer.write_pair.Goals as goal

pub returns : goal.returns
returns g c = does_then (string 3 c.args.key.now) (λ state. state) c.write_text.result _ _ c.in_ok-write_row_head.ensures c.write_text.ensures
