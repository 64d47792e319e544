-- What errors say.
use Rattle.std.specs.Prelude.{ℕ, List, ◌++◌, codes}
use Rattle.std.specs.Fmt.{decimal}
use Rattle.sval_relay.specs.declared.relaying.RelayError.{RelayError}
use Rattle.sval_relay.specs.declared.relaying.RelayError.TheVariants as relay
use Rattle.sval_relay.specs.declared.made.MadeError.{MadeError}
use Rattle.sval_relay.specs.declared.made.MadeError.TheVariants as made

-- the text of an error of serving
abbrev pub relay_error_text : RelayError → List ℕ
relay_error_text (relay.BadLine line) = codes "line " ++ (decimal line ++ codes ": not a call")
relay_error_text (relay.BadCall line) = codes "line " ++ (decimal line ++ codes ": no value goes on with this call")
relay_error_text relay.Unfinished = codes "the calls are not one whole value"
relay_error_text relay.InvalidKey = codes "attempt to serialize a non-string key"
relay_error_text relay.InvalidNumber = codes "attempt to serialize an invalid number"
relay_error_text relay.Write = codes "write fault"
relay_error_text relay.NoMemory = codes "out of memory"

-- the text of an error of the line of a made script
abbrev pub made_error_text : MadeError → List ℕ
made_error_text made.Write = codes "write fault"
made_error_text made.NoMemory = codes "out of memory"
