-- What `CborReadError` is printed as.
use Rattle.std.specs.Prelude.{ℕ, List, ◌++◌, codes}
use Rattle.std.specs.Fmt.{decimal}
use Rattle.sval_cbor_read.specs.declared.document.CborReadError.{CborReadError}
use Rattle.sval_cbor_read.specs.declared.document.CborReadError.TheVariants.{Malformed, Unsupported, NoMemory}

-- one plain sentence for each
abbrev pub cbor_read_error_text : CborReadError → List ℕ
cbor_read_error_text (Malformed at) = codes "invalid CBOR at byte " ++ decimal at ++ codes ": cut short, not well-formed or left over"
cbor_read_error_text (Unsupported at) = codes "unsupported CBOR at byte " ++ decimal at ++ codes ": a float, a simple value, invalid UTF-8, or a bignum that is invalid or too large"
cbor_read_error_text NoMemory = codes "cannot allocate for an item of CBOR"
