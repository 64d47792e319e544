use Rattle.std.specs.Prelude.{None}
use Rattle.sval_label.specs.Calls.{Place}
use Rattle.sval_core.specs.Names.{offset}
use Rattle.sval_core.specs.Values.{part_emission}
use Rattle.sval_core.proofs.Emissions.{stops_first}
use Rattle.sval_core.proofs.Places.{emits_then}
use Rattle.sval_core.proofs.values.tuple_streaming.TupleStreaming.field.Goals as goal

pub returns-in-Ok : goal.returns-in-Ok
returns-in-Ok g c start before e =
    emits_then c.stream_tuple_value.result (g.S.Stream.standing c.stream_tuple_value.new.stream) before
    (part_emission (Place None (offset c.args.number)) (g.T.Value.emission c.args.field.now)) (rw c.in-Ok.is at e) c.stream_tuple_value.ensures

pub returns-in-Err : goal.returns-in-Err
returns-in-Err g c start before e =
    let next = part_emission (Place None (offset c.args.number)) (g.T.Value.emission c.args.field.now) in
    rw c.in-Err.is (stops_first next (rw c.in-Err.is at e))
