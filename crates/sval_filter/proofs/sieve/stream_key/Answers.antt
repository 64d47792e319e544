use Rattle.sval_core.proofs.Between.{streams_between}
use Rattle.sval_filter.proofs.sieve.stream_key.Goals as goal

pub returns : goal.returns
returns g c = streams_between c.in_ok-map_key_begin.ensures c.in_ok-value_computed.ensures c.in_ok-take.ensures
