use Rattle.sval_io.proofs.Pieces.{then_rest}
use Rattle.sval_io.proofs.sink.write_in_place.Goals as goal

pub returns-clause-writes : goal.returns-clause-writes
returns-clause-writes g c = then_rest (g.K.Sink.told c.write_rest.new.sink) c.write_rest.result c.in_ok-count.count c.in_ok-count.ensures c.write_rest.ensures.writes
