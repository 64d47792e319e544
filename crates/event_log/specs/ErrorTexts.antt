-- What an error says.
use Rattle.std.specs.Prelude.{ℕ, List, codes}
use Rattle.event_log.specs.declared.checking.RecordError.{RecordError}
use Rattle.event_log.specs.declared.checking.RecordError.TheVariants as error

-- the text of an error
abbrev pub record_error_text : RecordError → List ℕ
record_error_text error.NotOneValue = codes "the event refused or is not one whole value"
record_error_text error.NoJson = codes "the event has no JSON"
record_error_text error.NoMemory = codes "cannot allocate for an event"
