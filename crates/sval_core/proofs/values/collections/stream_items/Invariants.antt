use Rattle.std.specs.Prelude.{map, Some}
use Rattle.std.specs.Map.Iter.{deref}
use Rattle.sval_label.specs.Calls.{Begin, Seq, Item}
use Rattle.sval_core.specs.Law.{Streams, emits, then_emits}
use Rattle.sval_core.specs.Values.{part_emission, parts_emission}
use Rattle.sval_core.proofs.values.collections.stream_items.Given as goal

abbrev pub invariant-loop-item : goal.invariant-loop-item
invariant-loop-item g l =
    Streams g.S.Stream.law (g.S.Stream.standing l.fn.stream)
    (then_emits (emits (Begin Seq (Some l.fn.size))) (parts_emission (λ x. part_emission Item (g.T.Value.emission x)) (map deref l.yielded)))
    (g.S.Stream.standing l.stream)
