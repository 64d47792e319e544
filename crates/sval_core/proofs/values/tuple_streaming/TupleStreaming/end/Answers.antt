use Rattle.sval_core.proofs.Emissions.{passes_on}
use Rattle.sval_core.proofs.Places.{ends_tuple, stops_before_end}
use Rattle.sval_core.proofs.values.tuple_streaming.TupleStreaming.end.Goals as goal

pub returns-in_err-self : goal.returns-in_err-self
returns-in_err-self g c start fields e =
    passes_on c.from_residual.result c.from_residual.ensures.0 (stops_before_end fields (rw c.in_err-self.was at e))

pub returns : goal.returns
returns g c start fields e =
    ends_tuple c.tuple_end.result (g.S.Stream.standing c.tuple_end.new.self) fields (rw c.in_ok-self.was at e) c.tuple_end.ensures
