use Rattle.std.specs.Prelude.{Some, length}
use Rattle.std.proofs.Common.{arith}
use Rattle.sval_label.specs.Calls.{Begin, End, Map}
use Rattle.sval_core.specs.Law.{emits, then_emits}
use Rattle.sval_core.specs.Values.{entry_emission, parts_emission}
use Rattle.sval_core.proofs.Emissions.{streams_one, stops_one, stops_first, emits_one, passes_on}
use Rattle.sval_core.proofs.Joining.{streams_no_parts, streams_part, stops_at_part, emits_after_parts}
use Rattle.sval.proofs.map_slice.stream_map.Goals as goal

pub returns-in_err-map_begin : goal.returns-in_err-map_begin
returns-in_err-map_begin g c =
    passes_on c.from_residual.result c.from_residual.ensures.0
    (stops_first (then_emits (parts_emission (λ (entry : g.row.K.Denot × g.row.V.Denot). entry_emission (g.K.Value.emission entry.0) (g.V.Value.emission entry.1)) c.args.entries.now) (emits (End Map))) (stops_one c.in_err-map_begin.ensures))

pub loop-entry-init : goal.loop-entry-init
loop-entry-init g c = streams_no_parts (λ (entry : g.row.K.Denot × g.row.V.Denot). entry_emission (g.K.Value.emission entry.0) (g.V.Value.emission entry.1)) (emits (Begin Map (Some (length c.args.entries.now)))) (streams_one c.in_ok-map_begin.ensures)

pub loop-entry-preserved : goal.loop-entry-preserved
loop-entry-preserved g c =
    streams_part (λ (entry : g.row.K.Denot × g.row.V.Denot). entry_emission (g.K.Value.emission entry.0) (g.V.Value.emission entry.1)) (emits (Begin Map (Some (length c.args.entries.now)))) c.args.entries.now c.loop-entry.entry-index c.entry-item.result
    (omega arith) c.entry-item.is c.loop-entry.invariant c.in_ok-stream_entry.ensures

pub returns-in_err-stream_entry : goal.returns-in_err-stream_entry
returns-in_err-stream_entry g c =
    passes_on c.from_residual-in_err-stream_entry.result c.from_residual-in_err-stream_entry.ensures.0
    (stops_at_part (λ (entry : g.row.K.Denot × g.row.V.Denot). entry_emission (g.K.Value.emission entry.0) (g.V.Value.emission entry.1)) (emits (Begin Map (Some (length c.args.entries.now)))) c.args.entries.now c.loop-entry.entry-index c.entry-item.result (emits (End Map))
    (omega arith) c.entry-item.is c.loop-entry.invariant c.in_err-stream_entry.ensures)

pub returns : goal.returns
returns g c =
    emits_after_parts (λ (entry : g.row.K.Denot × g.row.V.Denot). entry_emission (g.K.Value.emission entry.0) (g.V.Value.emission entry.1)) (emits (Begin Map (Some (length c.args.entries.now)))) (g.S.Stream.standing c.map_end.new.self) c.map_end.result
    c.args.entries.now c.loop-entry.entry-index (emits (End Map)) (omega arith) c.loop-entry.invariant
    (emits_one g.S.Stream.law (g.S.Stream.standing c.loop-entry.stream) (g.S.Stream.standing c.map_end.new.self) (End Map) c.map_end.result c.map_end.ensures)
