-- What streaming the calls of what is left of a document answers.
use Rattle.std.specs.Prelude.{◌≡◌, ⊤, List, ◌++◌, Result, Ok, Err}
use Rattle.sval_label.specs.Calls.{Call}
use Rattle.sval_core.specs.Law.{Law, Standing, Streams, Stops}
use Rattle.sval_core.specs.Values.{makes}
use Rattle.sval_io.specs.declared.sink.SinkError.{SinkError}
use Rattle.sval_io.specs.declared.sink.SinkError.TheVariants as sink
use Rattle.sval_json.specs.declared.error.ErrorKind.{ErrorKind}
use Rattle.sval_json.specs.declared.error.ErrorKind.TheVariants as kind
use Rattle.sval_tool.specs.declared.left.Halt.{Halt}
use Rattle.sval_tool.specs.declared.left.Halt.TheVariants as halt

-- the stream took some first calls of these
pub record TakesFirstCalls {V : Type 0} (law : Law V) (old : Standing V) (calls : List Call) (new : Standing V) : Type 0 where
  pub taken : List Call
  pub rest : List Call
  pub same : calls ≡ taken ++ rest
  pub streams : Streams law old (makes taken) new

-- memory was wanting for a walk between two of the calls, or the stream stopped in them
abbrev pub StopsAt : {V : Type 0} → Law V → Halt → Standing V → List Call → Standing V → Type 0
StopsAt law halt.NoMemory old calls new = TakesFirstCalls law old calls new
StopsAt law halt.Refused old calls new = Stops law old (makes calls) new

-- what streaming these calls answers: the stream took all of them, or stopped
abbrev pub StreamsLeft : {V : Type 0} → Law V → Standing V → List Call → Result (Unit {0}) Halt → Standing V → Type 0
StreamsLeft law old calls (Ok done) new = Streams law old (makes calls) new
StreamsLeft law old calls (Err why) new = StopsAt law why old calls new

-- ---- before a writer of JSON

-- the walk lacked memory, or the writer's sink stopped it
abbrev pub IsSinkStop : Halt → ErrorKind → Type 0
IsSinkStop halt.NoMemory found = ⊤
IsSinkStop halt.Refused kind.IO = ⊤
IsSinkStop halt.Refused kind.NoMemory = ⊤
IsSinkStop _ found = ⊥

-- as an error of a sink
abbrev pub sink_error_of : Halt → ErrorKind → SinkError
sink_error_of halt.Refused kind.IO = sink.Failed
sink_error_of _ found = sink.NoMemory
