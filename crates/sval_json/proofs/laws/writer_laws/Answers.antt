use Rattle.sval_json.proofs.laws.writer_laws.Goals as goal
use Rattle.sval_json.proofs.Streaming.{values_are_written}

pub returns : goal.returns
returns g c = record { values_are_written = values_are_written g.K.Sink.told }
