use Rattle.std.proofs.Common.{rules}
use Rattle.sval_core.proofs.Emissions.{streams_computed, stops_computed, stops_at}
use Rattle.sval_core.proofs.stream.Stream.value_computed.Goals as goal

pub returns-in-Ok : goal.returns-in-Ok
returns-in-Ok g c =
    let streamed = streams_computed {law = g.Self.Stream.law} c.in-Ok.ensures in search rules

pub returns-in-Err : goal.returns-in-Err
returns-in-Err g c =
    let stopped = stops_computed {law = g.Self.Stream.law} c.in-Err.ensures in stops_at (rw c.new-computed.ensures at stopped.0) (search rules)
