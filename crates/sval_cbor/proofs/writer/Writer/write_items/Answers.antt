use Rattle.sval_cbor.specs.Cbor.{row_end}
use Rattle.sval_cbor.specs.Writing.{CborState}
use Rattle.sval_cbor.proofs.Doing.{does_next}
use Rattle.sval_cbor.proofs.writer.Writer.write_items.Goals as goal

pub returns : goal.returns
returns g c = does_next (λ (s : CborState). row_end s.style.lengths) (λ (s : CborState). s) c.write_row_end.result _ _ c.in_ok-write_bytes.ensures c.write_row_end.ensures
