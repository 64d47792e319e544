-- What streaming a tape as it is read answers.
use Rattle.std.specs.Prelude.{◌≡◌, ℕ, List, ◌++◌, take, Option, None, Some, Result, Ok, Err}
use Rattle.std.specs.List.{AllByRecursion}
use Rattle.sval_label.specs.Calls.{Call}
use Rattle.sval_label.specs.declared.error.Error.{Error}
use Rattle.sval_core.specs.Law.{Law, Standing, Takes, Refuses, Streams, Stops}
use Rattle.sval_core.specs.Values.{makes}
use Rattle.sval_tape.specs.Tapes.{tape_of}
use Rattle.sval_tape.specs.Taped.{IsTapedCall, IsTape, IsBadAt}
use Rattle.sval_tape.specs.declared.tape.TapeError.{TapeError}
use Rattle.sval_tape.specs.declared.tape.TapeError.TheVariants as error
use Rattle.sval_tape.specs.declared.step.Step.{Step}
use Rattle.sval_tape.specs.declared.step.Step.TheVariants as step

-- what making the call that bytes begin with says, where this was read there: it was taken, and these bytes are behind it; it was refused; or there is none, and nothing was done
abbrev pub StepsOn : {V : Type 0} → Law V → Option (Call × List ℕ) → Standing V → Step → Standing V → Type 0
StepsOn law read old (step.Taken rest) new = (call : Call) × (read ≡ Some (call, rest.now)) × Takes law old call new
StepsOn law read old (step.Refused refusal) new = (call : Call) × (rest : List ℕ) × (read ≡ Some (call, rest)) × Refuses law old call new
StepsOn law read old step.Bad new = (read ≡ None) × (new ≡ old)

-- the bytes are a tape, and all its calls were taken
pub record StreamsTape {V : Type 0} (law : Law V) (bytes : List ℕ) (old new : Standing V) : Type 0 where
  pub calls : List Call
  pub tape : IsTape bytes calls
  pub streams : Streams law old (makes calls) new

-- the bytes are bad at this place, and all calls before it were taken
pub record StreamsFront {V : Type 0} (law : Law V) (bytes : List ℕ) (at : ℕ) (old new : Standing V) : Type 0 where
  pub bad : IsBadAt bytes at
  pub front : StreamsTape law (take at bytes) old new

-- the bytes begin with a tape of these calls, and the stream refused one of them
pub record StopsInTape {V : Type 0} (law : Law V) (bytes : List ℕ) (old new : Standing V) : Type 0 where
  pub calls : List Call
  pub rest : List ℕ
  pub taped : AllByRecursion IsTapedCall calls
  pub bytes_are : bytes ≡ tape_of calls ++ rest
  pub stops : Stops law old (makes calls) new

-- what streaming a tape answers
abbrev pub TellsStreamed : {V : Type 0} → Law V → List ℕ → Standing V → Result (Result (Unit {0}) Error) TapeError → Standing V → Type 0
TellsStreamed law bytes old (Ok (Ok done)) new = StreamsTape law bytes old new
TellsStreamed law bytes old (Ok (Err refusal)) new = StopsInTape law bytes old new
TellsStreamed law bytes old (Err (error.Bad at)) new = StreamsFront law bytes at old new
