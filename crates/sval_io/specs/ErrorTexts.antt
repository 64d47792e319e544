-- What errors of devices say.
use Rattle.std.specs.Prelude.{ℕ, List, codes}
use Rattle.sval_io.specs.declared.sink.SinkError.{SinkError}
use Rattle.sval_io.specs.declared.sink.SinkError.TheVariants as sink
use Rattle.sval_io.specs.declared.input_error.InputError.{InputError}
use Rattle.sval_io.specs.declared.input_error.InputError.TheVariants as input
use Rattle.sval_io.specs.declared.source.SourceError.{SourceError}
use Rattle.sval_io.specs.declared.source.SourceError.TheVariants as source

-- the text of an error of an input
abbrev pub input_error_text : InputError → List ℕ
input_error_text input.ReadFault = codes "read fault"
input_error_text input.TooLong = codes "the input is longer than 16777216 bytes"
input_error_text input.NoMemory = codes "out of memory"

-- the text of an error of a source
abbrev pub source_error_text : SourceError → List ℕ
source_error_text source.Failed = codes "read fault"

-- the text of an error of a sink
abbrev pub sink_error_text : SinkError → List ℕ
sink_error_text sink.Failed = codes "write fault"
sink_error_text sink.NoMemory = codes "out of memory"
