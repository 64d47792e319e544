-- What capturing a value answers where its calls are checked first.
use Rattle.std.specs.Prelude.{◌≡◌, ◌⊎◌, Result, Ok, Err}
use Rattle.sval_core.specs.Law.{Emission}
use Rattle.sval_check.specs.Checks.{CheckAnswer, IsOneValue, IsFirstBadCall, OnlyRefuses, IsUnfinished, NeedsMemory}
use Rattle.sval_check.specs.declared.error.CheckError.{CheckError}
use Rattle.sval_check.specs.declared.error.CheckError.TheVariants as error
use Rattle.sval_buffer.specs.Capture.{Capture}
use Rattle.sval_buffer.specs.CapturedValues.{IsCaptured, KeepsTree, RunsOut}

-- an answer without what was captured
abbrev pub check_answer : {T : Type 0} → Result T CheckError → CheckAnswer
check_answer (Ok buffer) = Ok tt
check_answer (Err why) = Err why

-- the calls are one whole value, all of them were taken, and the replay spells the tree that they spell
pub record CapturesOneValue (e : Emission) (buffer : Capture) : Type 0 where
  pub value : IsOneValue e
  pub captured : IsCaptured e buffer
  pub tree : KeepsTree e buffer.forest

-- memory was wanting to capture one whole value
pub record IsCaptureWant (e : Emission) (why : CheckError) : Type 0 where
  pub want : why ≡ error.NoMemory
  pub value : IsOneValue e
  pub runs_out : RunsOut e.calls

-- why a value wasn't captured
abbrev pub IsWholeCause : Emission → CheckError → Type 0
IsWholeCause e (error.BadCall at) = IsFirstBadCall e.calls at
IsWholeCause e error.Unfinished = IsUnfinished e
IsWholeCause e error.Refused = OnlyRefuses e
IsWholeCause e error.NoMemory = NeedsMemory e.calls ⊎ (IsOneValue e × RunsOut e.calls)
