use Rattle.sval_cbor_read.proofs.laws.round_trip_laws.Goals as goal
use Rattle.sval_cbor_read.proofs.RoundTrip.{written_is_read_back, styles_are_read_back}

pub returns : goal.returns
returns c = record { written_is_read_back = written_is_read_back; styles_are_read_back = styles_are_read_back }
