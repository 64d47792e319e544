use Rattle.std.specs.Prelude.{length, take, Some, flat_map, ◌∷◌}
use Rattle.sval_label.specs.Calls.{Begin, Seq}
use Rattle.sval_core.specs.Law.{Streams}
use Rattle.sval_core.specs.Values.{makes}
use Rattle.sval_core.specs.ValueCalls.{item_calls}
use Rattle.readings.specs.Readings.{reading_calls}
use Rattle.readings.proofs.ReadingsValueLent.stream.Given as goal

abbrev pub invariant-loop-reading : goal.invariant-loop-reading
invariant-loop-reading g l =
    Streams g.S.Stream.law (g.S.Stream.standing l.fn.stream)
    (makes (Begin Seq (Some (length l.reading-items)) ∷ flat_map (item_calls reading_calls) (take l.reading-index l.reading-items)))
    (g.S.Stream.standing l.stream)
