-- What an error of reading CBOR with limits says.
use Rattle.std.specs.Prelude.{ℕ, List, ◌++◌, codes}
use Rattle.std.specs.Fmt.{decimal}
use Rattle.sval_cbor_read.specs.declared.document.limited.CborLimitedError.{CborLimitedError}
use Rattle.sval_cbor_read.specs.declared.document.limited.CborLimitedError.TheVariants as limited
use Rattle.sval_cbor_read.specs.ErrorTexts.{cbor_read_error_text}

-- the text of an error
abbrev pub cbor_limited_text : CborLimitedError → List ℕ
cbor_limited_text (limited.Read error) = cbor_read_error_text error
cbor_limited_text (limited.TooDeep at) = codes "nested too deeply at byte " ++ decimal at
cbor_limited_text (limited.TooMany at) = codes "too many items at byte " ++ decimal at
