use Rattle.std.specs.Prelude.{length, map, Some}
use Rattle.std.specs.Map.Iter.{deref_pair}
use Rattle.sval_label.specs.Calls.{Begin, Map}
use Rattle.sval_core.specs.Law.{Streams, emits, then_emits}
use Rattle.sval_core.specs.Values.{entry_emission, parts_emission}
use Rattle.sval_core.proofs.values.maps.stream_entries.Given as goal

abbrev pub invariant-loop-key : goal.invariant-loop-key
invariant-loop-key g l =
    Streams g.S.Stream.law (g.S.Stream.standing l.fn.stream)
    (then_emits (emits (Begin Map (Some (length l.fn.map.entries)))) (parts_emission (λ entry. entry_emission (g.K.Value.emission entry.0) (g.V.Value.emission entry.1)) (map deref_pair l.yielded)))
    (g.S.Stream.standing l.stream)
