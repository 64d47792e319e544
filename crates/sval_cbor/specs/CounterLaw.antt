-- The counter as a stream: it takes every call.
use Rattle.std.specs.Prelude.{◌≡◌, ⊤, ◌∷◌, ◌++◌, [], length, Result, Ok, Err}
use Rattle.sval_label.specs.Calls.{Call}
use Rattle.sval_label.specs.declared.error.NoMemory.{NoMemory}
use Rattle.sval_core.specs.Law.{Law, Standing}
use Rattle.sval_cbor.specs.declared.counting.Counter.{Counter}
use Rattle.sval_cbor.specs.Counting.{Counting, count_step}

-- every call is accepted, and counted
abbrev pub counter_law : Law Counting
counter_law = record { accepts = λ view call. ⊤; after = λ view call. count_step call view; stopped = λ view call left. ⊤ }

-- what the counter has counted
abbrev pub counter_view : Counter → Counting
counter_view counter = record { counts = counter.counts.items; rows = counter.rows }

-- where it stands: it has no faults
abbrev pub counter_standing : Counter → Standing Counting
counter_standing counter = record { view = counter_view counter; faults = 0; wants = counter.wants }

-- a container begins, unless memory is wanting
abbrev pub BeginsRow : Standing Counting → Result (Unit {0}) NoMemory → Standing Counting → Type 0
BeginsRow old (Ok done) new =
    new ≡ record old { view = record { counts = old.view.counts ++ (0 ∷ []); rows = record { at = length old.view.counts; entries = 0 } ∷ old.view.rows } }
BeginsRow old (Err no_memory) new = new.wants ≡ old.wants

-- a call is counted, unless memory is wanting
abbrev pub CountsCall : Standing Counting → Call → Result (Unit {0}) NoMemory → Standing Counting → Type 0
CountsCall old call (Ok done) new = new ≡ record old { view = count_step call old.view }
CountsCall old call (Err no_memory) new = new.wants ≡ old.wants
