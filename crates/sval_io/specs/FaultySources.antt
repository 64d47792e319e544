-- What a source has left that fails at calls that are given.
use Rattle.std.specs.Prelude.{ℕ, List, Result, Ok, Err, Some, length, min}
use Rattle.sval_io.specs.FaultPlans.{Plan, went_well, failed}
use Rattle.sval_io.specs.Sources.{Supply}

-- the bytes that are left, and the plan of its calls
pub record FaultySupply : Type 0 where
  pub left : List ℕ
  pub plan : Plan

-- it tells the bytes that are left
abbrev pub faulty_source_told : FaultySupply → Supply
faulty_source_told faulty = record { left = Some faulty.left; faults = faulty.plan.faults }

-- how many bytes a call that doesn't fail gives into a buffer of this length
abbrev pub given : FaultySupply → ℕ → ℕ
given faulty room = min faulty.plan.chunk (min room (length faulty.left))

-- the plan after a call that was answered so
abbrev pub after_read : {E : Type 0} → Result ℕ E → Plan → Plan
after_read (Ok count) plan = went_well plan
after_read (Err why) plan = failed plan
