use Rattle.std.specs.Prelude.{length, Some}
use Rattle.std.specs.Map.Iter.{deref_pair, TakesFirst}
use Rattle.std.proofs.lemmas.Iterator.{YieldsList}
use Rattle.std.proofs.lemmas.Iterator.Consumers.{YieldsList-from_rest}
use Rattle.sval_label.specs.Calls.{Begin, End, Map}
use Rattle.sval_core.specs.Law.{emits, then_emits}
use Rattle.sval_core.specs.Values.{entry_emission, parts_emission}
use Rattle.sval_core.proofs.Emissions.{streams_one, stops_one, stops_first, emits_one, passes_on}
use Rattle.sval_core.proofs.Joining.{streams_no_parts}
use Rattle.sval_core.proofs.Iterated.{streams_yielded, stops_at_yielded, emits_after_yielded}
use Rattle.sval_core.proofs.values.maps.stream_entries.Goals as goal

pub returns-in_err-map_begin : goal.returns-in_err-map_begin
returns-in_err-map_begin g c =
    let refused = rw c.len.ensures.len at c.in_err-map_begin.ensures in
    passes_on c.from_residual.result c.from_residual.ensures.0
    (stops_first (then_emits (parts_emission (λ (entry : g.row.K.Denot × g.row.V.Denot). entry_emission (g.K.Value.emission entry.0) (g.V.Value.emission entry.1)) c.args.map.now.entries) (emits (End Map))) (stops_one refused))

pub loop-key-init : goal.loop-key-init
loop-key-init g c =
    let taken = rw c.len.ensures.len at c.in_ok-map_begin.ensures in
    streams_no_parts (λ (entry : g.row.K.Denot × g.row.V.Denot). entry_emission (g.K.Value.emission entry.0) (g.V.Value.emission entry.1)) (emits (Begin Map (Some (length c.args.map.now.entries)))) (streams_one taken)

pub loop-key-preserved : goal.loop-key-preserved
loop-key-preserved g c =
    streams_yielded deref_pair (λ (entry : g.row.K.Denot × g.row.V.Denot). entry_emission (g.K.Value.emission entry.0) (g.V.Value.emission entry.1)) (emits (Begin Map (Some (length c.args.map.now.entries)))) c.loop-key.yielded (c.in-Some.key, c.in-Some.value) c.loop-key.invariant c.in_ok-stream_entry.ensures

pub returns-in_err-stream_entry : goal.returns-in_err-stream_entry
returns-in_err-stream_entry g c =
    let list : YieldsList (TakesFirst deref_pair) deref_pair c.into_iter-key-iterator.result c.args.map.now.entries = YieldsList-from_rest c.args.map.now.entries c.into_iter-key-iterator.ensures.into_iter_gives.0 in
    passes_on c.from_residual-in_err-stream_entry.result c.from_residual-in_err-stream_entry.ensures.0
    (stops_at_yielded deref_pair (λ (entry : g.row.K.Denot × g.row.V.Denot). entry_emission (g.K.Value.emission entry.0) (g.V.Value.emission entry.1)) (emits (Begin Map (Some (length c.args.map.now.entries)))) list c.loop-key.yielded c.loop-key.key-iterator c.next.new.self c.loop-key.yielded_by
    c.next.result (c.in-Some.key, c.in-Some.value) (emits (End Map)) c.in-Some.is c.next.ensures.steps c.loop-key.invariant c.in_err-stream_entry.ensures)

pub returns : goal.returns
returns g c =
    let list : YieldsList (TakesFirst deref_pair) deref_pair c.into_iter-key-iterator.result c.args.map.now.entries = YieldsList-from_rest c.args.map.now.entries c.into_iter-key-iterator.ensures.into_iter_gives.0 in
    let new = g.S.Stream.standing c.map_end.new.self in
    emits_after_yielded deref_pair (λ (entry : g.row.K.Denot × g.row.V.Denot). entry_emission (g.K.Value.emission entry.0) (g.V.Value.emission entry.1)) (emits (Begin Map (Some (length c.args.map.now.entries)))) list c.loop-key.yielded c.loop-key.key-iterator c.next.new.self c.loop-key.yielded_by
    new c.next.result c.map_end.result (emits (End Map)) c.in-None.is c.next.ensures.steps c.loop-key.invariant
    (emits_one g.S.Stream.law (g.S.Stream.standing c.loop-key.stream) new (End Map) c.map_end.result c.map_end.ensures)
