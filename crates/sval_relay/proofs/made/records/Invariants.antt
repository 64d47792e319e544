use Rattle.std.specs.Prelude.{take, Some, flat_map, ◌∷◌}
use Rattle.std.specs.List.{range_with_len}
use Rattle.sval_label.specs.Calls.{Begin, Seq}
use Rattle.sval_core.specs.Law.{Streams}
use Rattle.sval_core.specs.Values.{makes}
use Rattle.sval_core.specs.ValueCalls.{item_calls}
use Rattle.sval_relay.specs.Made.{record_calls}
use Rattle.sval_relay.proofs.made.records.Given as goal

abbrev pub invariant-loop-number : goal.invariant-loop-number
invariant-loop-number g l =
    Streams g.S.Stream.law (g.S.Stream.standing l.fn.stream)
    (makes (Begin Seq (Some l.fn.count) ∷ flat_map (item_calls record_calls) (take l.number-counter (range_with_len 0 l.fn.count))))
    (g.S.Stream.standing l.stream)
