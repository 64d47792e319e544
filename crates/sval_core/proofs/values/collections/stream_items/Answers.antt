use Rattle.std.specs.Prelude.{ℕ, Some}
use Rattle.std.specs.Map.Iter.{deref}
use Rattle.std.proofs.Common.{ap, sym}
use Rattle.std.proofs.lemmas.Iterator.{YieldsList}
use Rattle.sval_label.specs.Calls.{Begin, End, Seq, Item}
use Rattle.sval_core.specs.Law.{emits, then_emits}
use Rattle.sval_core.specs.Values.{part_emission, parts_emission}
use Rattle.sval_core.proofs.Emissions.{streams_one, stops_one, stops_first, emits_one, passes_on}
use Rattle.sval_core.proofs.Joining.{streams_no_parts}
use Rattle.sval_core.proofs.Iterated.{stops_renamed, emits_renamed, streams_yielded, stops_at_yielded, emits_after_yielded}
use Rattle.sval_core.proofs.values.collections.stream_items.Goals as goal

pub returns-in_err-seq_begin : goal.returns-in_err-seq_begin
returns-in_err-seq_begin g c = λ all gives sized.
    passes_on c.from_residual.result c.from_residual.ensures.0
    (stops_renamed (then_emits (parts_emission (λ x. part_emission Item (g.T.Value.emission x)) all) (emits (End Seq))) (ap (λ (n : ℕ). emits (Begin Seq (Some n))) (sym sized))
    (stops_first (then_emits (parts_emission (λ x. part_emission Item (g.T.Value.emission x)) all) (emits (End Seq))) (stops_one c.in_err-seq_begin.ensures)))

pub loop-item-init : goal.loop-item-init
loop-item-init g c = streams_no_parts (λ x. part_emission Item (g.T.Value.emission x)) (emits (Begin Seq (Some c.args.size))) (streams_one c.in_ok-seq_begin.ensures)

pub loop-item-preserved : goal.loop-item-preserved
loop-item-preserved g c =
    streams_yielded deref (λ x. part_emission Item (g.T.Value.emission x)) (emits (Begin Seq (Some c.args.size))) c.loop-item.yielded c.in-Some.item c.loop-item.invariant c.in_ok-stream_item.ensures

pub returns-in_err-stream_item : goal.returns-in_err-stream_item
returns-in_err-stream_item g c = λ all gives sized.
    let list : YieldsList g.I.Iterator.next_gives deref c.into_iter-item-iterator.result all = rw c.into_iter-item-iterator.ensures.into_iter_gives (record { runs = gives }) in
    passes_on c.from_residual-in_err-stream_item.result c.from_residual-in_err-stream_item.ensures.0
    (stops_renamed (then_emits (parts_emission (λ x. part_emission Item (g.T.Value.emission x)) all) (emits (End Seq))) (ap (λ (n : ℕ). emits (Begin Seq (Some n))) (sym sized))
    (stops_at_yielded deref (λ x. part_emission Item (g.T.Value.emission x)) (emits (Begin Seq (Some c.args.size))) list c.loop-item.yielded c.loop-item.item-iterator c.next.new.self c.loop-item.yielded_by
    c.next.result c.in-Some.item (emits (End Seq)) c.in-Some.is c.next.ensures.steps c.loop-item.invariant c.in_err-stream_item.ensures))

pub returns : goal.returns
returns g c = λ all gives sized.
    let list : YieldsList g.I.Iterator.next_gives deref c.into_iter-item-iterator.result all = rw c.into_iter-item-iterator.ensures.into_iter_gives (record { runs = gives }) in
    let new = g.S.Stream.standing c.seq_end.new.self in
    emits_renamed g.S.Stream.law (g.S.Stream.standing c.args.stream.now) new c.seq_end.result (then_emits (parts_emission (λ x. part_emission Item (g.T.Value.emission x)) all) (emits (End Seq))) (ap (λ (n : ℕ). emits (Begin Seq (Some n))) (sym sized))
    (emits_after_yielded deref (λ x. part_emission Item (g.T.Value.emission x)) (emits (Begin Seq (Some c.args.size))) list c.loop-item.yielded c.loop-item.item-iterator c.next.new.self c.loop-item.yielded_by
    new c.next.result c.seq_end.result (emits (End Seq)) c.in-None.is c.next.ensures.steps c.loop-item.invariant
    (emits_one g.S.Stream.law (g.S.Stream.standing c.loop-item.stream) new (End Seq) c.seq_end.result c.seq_end.ensures))
