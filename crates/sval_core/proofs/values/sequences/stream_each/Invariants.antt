use Rattle.std.specs.Prelude.{length, take, Some}
use Rattle.sval_label.specs.Calls.{Begin, Seq, Item}
use Rattle.sval_core.specs.Law.{Streams, emits, then_emits}
use Rattle.sval_core.specs.Values.{part_emission, parts_emission}
use Rattle.sval_core.proofs.values.sequences.stream_each.Given as goal

abbrev pub invariant-loop-item : goal.invariant-loop-item
invariant-loop-item g l =
    Streams g.S.Stream.law (g.S.Stream.standing l.fn.stream)
    (then_emits (emits (Begin Seq (Some (length l.items)))) (parts_emission (λ x. part_emission Item (g.T.Value.emission x)) (take l.item-index l.items)))
    (g.S.Stream.standing l.stream)
