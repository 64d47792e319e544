-- What an error says.
use Rattle.std.specs.Prelude.{ℕ, List, ◌++◌, codes}
use Rattle.std.specs.Fmt.{decimal}
use Rattle.sval_whole.specs.declared.error.WriteError.{WriteError}
use Rattle.sval_whole.specs.declared.error.WriteError.TheVariants as error

-- the text of an error
abbrev pub write_error_text : WriteError → List ℕ
write_error_text (error.BadCall at) = codes "no value goes on with call " ++ decimal at
write_error_text error.Unfinished = codes "the calls end before the value is whole"
write_error_text error.Refused = codes "the value refused"
write_error_text error.InvalidKey = codes "attempt to serialize a non-string key"
write_error_text error.InvalidNumber = codes "attempt to serialize an invalid number"
write_error_text error.Write = codes "failed to write JSON"
write_error_text error.NoMemory = codes "cannot allocate for JSON"
