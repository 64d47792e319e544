-- The stream that asks of a value if it is surely whole.
use Rattle.std.specs.Prelude.{◌≡◌, Bool, true, [], ⊤}
use Rattle.sval_core.specs.Law.{Law, Standing}
use Rattle.sval_core.specs.Checker.{State}
use Rattle.sval_core.specs.CheckerSteps.{goes_on, state_after}
use Rattle.sval_core.specs.declared.glance.Glance.{Glance}

-- it takes what the machine takes
abbrev pub glance_law : Law State
glance_law = record { accepts = λ state call. goes_on state call ≡ true; after = λ state call. state_after call state; stopped = λ _ _ _. ⊤ }

-- outside of all values, with a whole one or before it
abbrev pub outside : Bool → State
outside is_whole = record { filled = is_whole; frames = [] }

-- where it stands; each refusal is a fault of its own
abbrev pub glance_standing : Glance → Standing State
glance_standing glance = record { view = outside glance.is_whole; faults = glance.refused; wants = 0 }
