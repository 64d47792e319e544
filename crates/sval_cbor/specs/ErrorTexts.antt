-- What an error says.
use Rattle.std.specs.Prelude.{ℕ, List, ◌++◌, codes}
use Rattle.std.specs.Fmt.{decimal}
use Rattle.sval_cbor.specs.declared.error.CborError.{CborError}
use Rattle.sval_cbor.specs.declared.error.CborError.TheVariants as error

-- the text of an error
abbrev pub cbor_error_text : CborError → List ℕ
cbor_error_text (error.BadCall at) = codes "no value goes on with call " ++ decimal at
cbor_error_text error.Unfinished = codes "the calls end before the value is whole"
cbor_error_text error.Refused = codes "the value refused"
cbor_error_text error.Key = codes "attempt to write a non-string key"
cbor_error_text error.Number = codes "attempt to write an invalid number"
cbor_error_text error.Raw = codes "attempt to write raw JSON as CBOR"
cbor_error_text error.NotInteger = codes "attempt to write a number that is no whole number of 128 bits"
cbor_error_text error.Write = codes "failed to write CBOR"
cbor_error_text error.NoMemory = codes "cannot allocate for CBOR"
