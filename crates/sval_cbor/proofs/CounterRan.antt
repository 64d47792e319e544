-- What a counter has counted after calls.
use Rattle.std.specs.Prelude.{◌≡◌, List, [], ◌∷◌}
use Rattle.sval_label.specs.Calls.{Call}
use Rattle.sval_core.specs.Law.{Ran}
use Rattle.sval_cbor.specs.Counting.{Counting, count_step, counting}
use Rattle.sval_cbor.specs.CounterLaw.{counter_law}

pub ran_counted : (calls : List Call) (old new : Counting) → Ran counter_law old calls new → new ≡ counting calls old
ran_counted [] old new r = r
ran_counted (call ∷ calls) old new r = ran_counted calls (count_step call old) new r.1
