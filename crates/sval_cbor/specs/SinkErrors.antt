-- The errors of a sink, as errors of CBOR.
use Rattle.sval_io.specs.declared.sink.SinkError.{SinkError}
use Rattle.sval_io.specs.declared.sink.SinkError.TheVariants as sink
use Rattle.sval_cbor.specs.declared.error.CborError.{CborError}
use Rattle.sval_cbor.specs.declared.error.CborError.TheVariants as error

-- the sink failed, or lacked memory
abbrev pub cbor_error_of : SinkError → CborError
cbor_error_of sink.Failed = error.Write
cbor_error_of sink.NoMemory = error.NoMemory
