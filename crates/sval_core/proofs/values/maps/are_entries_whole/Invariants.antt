use Rattle.std.specs.Prelude.{map}
use Rattle.std.specs.Map.Iter.{deref_pair}
use Rattle.sval_core.specs.OneValue.{EachEntryIsWhole}
use Rattle.sval_core.proofs.values.maps.are_entries_whole.Given as goal

abbrev pub invariant-loop-key : goal.invariant-loop-key
invariant-loop-key g l = EachEntryIsWhole g.K.Value.emission g.V.Value.emission (map deref_pair l.yielded)
