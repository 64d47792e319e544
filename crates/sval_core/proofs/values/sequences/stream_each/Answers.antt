use Rattle.std.specs.Prelude.{Some, length}
use Rattle.std.proofs.Common.{arith}
use Rattle.sval_label.specs.Calls.{Begin, End, Seq, Item}
use Rattle.sval_core.specs.Law.{emits, then_emits}
use Rattle.sval_core.specs.Values.{part_emission, parts_emission}
use Rattle.sval_core.proofs.Emissions.{streams_one, stops_one, stops_first, emits_one, passes_on}
use Rattle.sval_core.proofs.Joining.{streams_no_parts, streams_part, stops_at_part, emits_after_parts}
use Rattle.sval_core.proofs.values.sequences.stream_each.Goals as goal

pub returns-in_err-seq_begin : goal.returns-in_err-seq_begin
returns-in_err-seq_begin g c =
    passes_on c.from_residual.result c.from_residual.ensures.0
    (stops_first (then_emits (parts_emission (λ x. part_emission Item (g.T.Value.emission x)) c.args.items.now) (emits (End Seq))) (stops_one c.in_err-seq_begin.ensures))

pub loop-item-init : goal.loop-item-init
loop-item-init g c = streams_no_parts (λ x. part_emission Item (g.T.Value.emission x)) (emits (Begin Seq (Some (length c.args.items.now)))) (streams_one c.in_ok-seq_begin.ensures)

pub loop-item-preserved : goal.loop-item-preserved
loop-item-preserved g c =
    streams_part (λ x. part_emission Item (g.T.Value.emission x)) (emits (Begin Seq (Some (length c.args.items.now)))) c.args.items.now c.loop-item.item-index c.item-item.result
    (omega arith) c.item-item.is c.loop-item.invariant c.in_ok-stream_item.ensures

pub returns-in_err-stream_item : goal.returns-in_err-stream_item
returns-in_err-stream_item g c =
    passes_on c.from_residual-in_err-stream_item.result c.from_residual-in_err-stream_item.ensures.0
    (stops_at_part (λ x. part_emission Item (g.T.Value.emission x)) (emits (Begin Seq (Some (length c.args.items.now)))) c.args.items.now c.loop-item.item-index c.item-item.result (emits (End Seq))
    (omega arith) c.item-item.is c.loop-item.invariant c.in_err-stream_item.ensures)

pub returns : goal.returns
returns g c =
    emits_after_parts (λ x. part_emission Item (g.T.Value.emission x)) (emits (Begin Seq (Some (length c.args.items.now)))) (g.S.Stream.standing c.seq_end.new.self) c.seq_end.result
    c.args.items.now c.loop-item.item-index (emits (End Seq)) (omega arith) c.loop-item.invariant
    (emits_one g.S.Stream.law (g.S.Stream.standing c.loop-item.stream) (g.S.Stream.standing c.seq_end.new.self) (End Seq) c.seq_end.result c.seq_end.ensures)
