use Rattle.sval_cbor.proofs.laws.packing_laws.Goals as goal
use Rattle.sval_cbor.proofs.ByteRange.{cbor_is_bytes}
use Rattle.sval_cbor.proofs.SameText.{same_text}
use Rattle.sval_cbor.proofs.Styles.{refused_alike}

pub returns : goal.returns
returns c = record {
  cbor_is_bytes = cbor_is_bytes;
  packs_as_written = same_text;
  styles_refuse_alike = refused_alike;
}
