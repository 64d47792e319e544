-- Of which kind an error is, and what it says.
use Rattle.std.specs.Prelude.{ℕ, List, Option, Some, None, codes}
use Rattle.sval_io.specs.declared.sink.SinkError.{SinkError}
use Rattle.sval_io.specs.declared.sink.SinkError.TheVariants.{Failed, NoMemory}
use Rattle.sval_json.specs.declared.error.ErrorKind.{ErrorKind}
use Rattle.sval_json.specs.declared.error.ErrorKind.TheVariants as kind
use Rattle.sval_json.specs.declared.error.Refusal as code
use Rattle.sval_json.specs.declared.error.Refusal.TheVariants as refusal
use Rattle.sval_json.specs.declared.error.Stop.{Stop}
use Rattle.sval_json.specs.declared.error.Stop.TheVariants.{Step, Sink}
use Rattle.sval_json.specs.Number.{Refusal, InvalidKey, InvalidNumber}

-- a refusal of the code, as the steps say it
abbrev pub seen_refusal : code.Refusal → Refusal
seen_refusal refusal.InvalidKey = InvalidKey
seen_refusal refusal.InvalidNumber = InvalidNumber

-- where the writer's step refuses
abbrev pub refusal_kind : Refusal → ErrorKind
refusal_kind InvalidKey = kind.InvalidKey
refusal_kind InvalidNumber = kind.InvalidNumber

-- where the sink refuses
abbrev pub sink_kind : SinkError → ErrorKind
sink_kind Failed = kind.IO
sink_kind NoMemory = kind.NoMemory

-- what stops a value: the writer's step, the sink, or else the value itself
abbrev pub error_kind : Option Stop → ErrorKind
error_kind None = kind.Generic
error_kind (Some (Step why)) = refusal_kind (seen_refusal why)
error_kind (Some (Sink why)) = sink_kind why

-- Generic in place of IO
abbrev pub without_io : ErrorKind → ErrorKind
without_io kind.IO = kind.Generic
without_io found = found

-- what an error says
abbrev pub json_error_text : ErrorKind → List ℕ
json_error_text kind.Generic = codes "an error occurred serializing a value to JSON"
json_error_text kind.IO = codes "failed to write JSON"
json_error_text kind.InvalidKey = codes "attempt to serialize a non-string key"
json_error_text kind.InvalidNumber = codes "attempt to serialize an invalid number"
json_error_text kind.NoMemory = codes "cannot allocate for JSON"
