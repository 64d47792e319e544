use Rattle.sval_cbor_read.proofs.laws.value_laws.Goals as goal
use Rattle.sval_cbor_read.proofs.CborValues.{documents_mean}

pub returns : goal.returns
returns c = record { documents_mean = documents_mean }
