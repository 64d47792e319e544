-- What streaming a value to JSON answers where a fault of the sink is no kind of its own.
use Rattle.std.specs.Prelude.{◌≡◌, ◌⊎◌, Result, Err}
use Rattle.sval_core.specs.Law.{Emission, Rose}
use Rattle.sval_io.specs.Sinks.{Told}
use Rattle.sval_json.specs.declared.style.Variants.{Variants}
use Rattle.sval_json.specs.declared.error.ErrorKind.{ErrorKind}
use Rattle.sval_json.specs.declared.error.ErrorKind.TheVariants as kind
use Rattle.sval_json.specs.ErrorKinds.{without_io}
use Rattle.sval_json.specs.Written.{EndsRefused, IsTooLongFor, StreamsJson}

-- the same in an answer
abbrev pub answer_without_io : Result (Unit {0}) ErrorKind → Result (Unit {0}) ErrorKind
answer_without_io (Err found) = Err (without_io found)
answer_without_io result = result

-- a count of faults rose, and what the steps write had no place in the room, where that was told
pub record IsFaulty (style : Variants) (emission : Emission) (old new : Told) : Type 0 where
  pub faults : Rose old.faults new.faults
  pub room : IsTooLongFor style emission.calls old

-- It streamed the value, and the answer is what that answers, with Generic in place of IO: Generic comes only where the value refused
-- after all that its calls write, or where the sink failed.
pub record StreamsToFmt (style : Variants) (emission : Emission) (result : Result (Unit {0}) ErrorKind) (old new : Told) : Type 0 where
  pub answer : Result (Unit {0}) ErrorKind
  pub streams : StreamsJson style emission answer old new
  pub is : result ≡ answer_without_io answer
  pub generic : result ≡ Err kind.Generic → EndsRefused style emission old new ⊎ IsFaulty style emission old new
  pub io : result ≡ Err kind.IO → ⊥
