-- Calls of a device that fail at numbers that are given.
use Rattle.std.specs.Prelude.{◌≡◌, ℕ, List, Contains}
use Rattle.sval_core.specs.Law.{one_more}

-- how many bytes a call moves at most, the numbers of the calls that fail, how many calls came, and how many failed
pub record Plan : Type 0 where
  pub chunk : ℕ
  pub failing : List ℕ
  pub calls : ℕ
  pub faults : ℕ

-- the plan before any call
abbrev pub new_plan : ℕ → List ℕ → Plan
new_plan chunk failing = record { chunk = chunk; failing = failing; calls = 0; faults = 0 }

-- the next call is one of those that fail
abbrev pub IsDueToFail : Plan → Type 0
IsDueToFail plan = Contains plan.failing (one_more plan.calls)

-- the plan after a call that doesn't fail
abbrev pub went_well : Plan → Plan
went_well plan = record { chunk = plan.chunk; failing = plan.failing; calls = one_more plan.calls; faults = plan.faults }

-- the plan after a call that fails
abbrev pub failed : Plan → Plan
failed plan = record { chunk = plan.chunk; failing = plan.failing; calls = one_more plan.calls; faults = one_more plan.faults }
