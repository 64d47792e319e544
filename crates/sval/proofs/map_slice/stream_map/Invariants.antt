use Rattle.std.specs.Prelude.{length, take, Some}
use Rattle.sval_label.specs.Calls.{Begin, Map}
use Rattle.sval_core.specs.Law.{Streams, emits, then_emits}
use Rattle.sval_core.specs.Values.{entry_emission, parts_emission}
use Rattle.sval.proofs.map_slice.stream_map.Given as goal

abbrev pub invariant-loop-entry : goal.invariant-loop-entry
invariant-loop-entry g l =
    Streams g.S.Stream.law (g.S.Stream.standing l.fn.stream)
    (then_emits (emits (Begin Map (Some (length l.entries)))) (parts_emission (λ entry. entry_emission (g.K.Value.emission entry.0) (g.V.Value.emission entry.1)) (take l.entry-index l.entries)))
    (g.S.Stream.standing l.stream)
