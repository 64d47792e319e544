-- What a sink has taken that fails at calls that are given.
use Rattle.std.specs.Prelude.{ℕ, ◌<◌, List, [], ◌∷◌, length, Result, Ok, Err, Some, None}
use Rattle.sval_io.specs.FaultPlans.{Plan, IsDueToFail, went_well, failed}
use Rattle.sval_io.specs.Sinks.{Told}
use Rattle.sval_io.specs.declared.sink.SinkError.{SinkError}
use Rattle.sval_io.specs.declared.sink.SinkError.TheVariants.{Failed, NoMemory}

-- the bytes, the plan of its calls of pieces that aren't empty, and how often memory was wanting
pub record Faulty : Type 0 where
  pub bytes : List ℕ
  pub plan : Plan
  pub wants : ℕ

-- it tells its bytes, and holds none back
abbrev pub faulty_told : Faulty → Told
faulty_told faulty = record { text = Some faulty.bytes; room = None; held = Some 0; faults = faulty.plan.faults; wants = faulty.wants }

-- the piece isn't empty, and its call is one of those that fail
abbrev pub FailsNext : Faulty → List ℕ → Type 0
FailsNext faulty piece = (0 < length piece) × IsDueToFail faulty.plan

-- the plan after a call that was answered so: an empty piece is no call, and want of memory is no failure
abbrev pub after_write : Result ℕ SinkError → List ℕ → Plan → Plan
after_write result [] plan = plan
after_write (Ok count) (_ ∷ _) plan = went_well plan
after_write (Err Failed) (_ ∷ _) plan = failed plan
after_write (Err NoMemory) (_ ∷ _) plan = went_well plan
