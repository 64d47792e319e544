-- Why an input has no bytes to give.
use Rattle.std.specs.Prelude.{ℕ, List, Option, Some, None, Result, Ok, Err, ⊤}
use Rattle.sval_c.specs.declared.fault.Fault.{Fault}
use Rattle.sval_c.specs.declared.fault.Fault.TheVariants as fault
use Rattle.sval_json.specs.declared.error.ErrorKind.{ErrorKind}
use Rattle.sval_json.specs.declared.error.ErrorKind.TheVariants as writing
use Rattle.sval_json_read.specs.declared.document.ReadError.{ReadError}
use Rattle.sval_json_read.specs.declared.document.ReadError.TheVariants as json
use Rattle.sval_cbor.specs.declared.error.CborError.{CborError}
use Rattle.sval_cbor.specs.declared.error.CborError.TheVariants as pack
use Rattle.sval_cbor_read.specs.declared.document.CborReadError.{CborReadError}
use Rattle.sval_cbor_read.specs.declared.document.CborReadError.TheVariants as item
use Rattle.sval_relay.specs.declared.relaying.RelayError.{RelayError}
use Rattle.sval_relay.specs.declared.relaying.RelayError.TheVariants as script
use Rattle.sval_check.specs.declared.error.CheckError.{CheckError}
use Rattle.sval_check.specs.declared.error.CheckError.TheVariants as check
use Rattle.sval_tape.specs.declared.tape.TapeError.{TapeError}
use Rattle.sval_tape.specs.declared.tape.TapeError.TheVariants as tape
use Rattle.sval_filter.specs.declared.paths.PathError.{PathError}
use Rattle.sval_filter.specs.declared.paths.PathError.TheVariants as path
use Rattle.sval_tool.specs.declared.error.DocumentError.{DocumentError}
use Rattle.sval_tool.specs.declared.error.DocumentError.TheVariants as document
use Rattle.sval_c.specs.declared.lack.Lack.{Lack}
use Rattle.sval_c.specs.declared.lack.Lack.TheVariants as lack

-- ---- by the error of the library

abbrev pub lack_of_json : ReadError → Lack
lack_of_json (json.NotUtf8 at) = lack.Fault (fault.NotUtf8 at)
lack_of_json (json.BadJson at) = lack.Fault (fault.BadJson at)
lack_of_json json.NoMemory = lack.NoMemory

abbrev pub lack_of_cbor : CborReadError → Lack
lack_of_cbor (item.Malformed at) = lack.Fault fault.BadCbor
lack_of_cbor (item.Unsupported at) = lack.Fault fault.BadCbor
lack_of_cbor item.NoMemory = lack.NoMemory

-- of an item of CBOR that is written to memory, where the others don't come
abbrev pub lack_of_writing : ErrorKind → Option Lack
lack_of_writing writing.InvalidKey = Some (lack.Fault fault.InvalidKey)
lack_of_writing writing.NoMemory = Some lack.NoMemory
lack_of_writing writing.IO = None
lack_of_writing writing.InvalidNumber = None
lack_of_writing writing.Generic = None

-- of a document or a tape that is written to memory, where the others don't come
abbrev pub lack_of_pack : CborError → Option Lack
lack_of_pack (pack.BadCall number) = Some (lack.Fault (fault.BadCall number))
lack_of_pack pack.Unfinished = Some (lack.Fault fault.Unfinished)
lack_of_pack pack.Key = Some (lack.Fault fault.InvalidKey)
lack_of_pack pack.Number = Some (lack.Fault fault.InvalidNumber)
lack_of_pack pack.Raw = Some (lack.Fault fault.Raw)
lack_of_pack pack.NotInteger = Some (lack.Fault fault.NotInteger)
lack_of_pack pack.NoMemory = Some lack.NoMemory
lack_of_pack pack.Write = None
lack_of_pack pack.Refused = None

-- of a script that is written to memory, where no write fails
abbrev pub lack_of_relay : RelayError → Option Lack
lack_of_relay (script.BadLine line) = Some (lack.Fault (fault.BadLine line))
lack_of_relay (script.BadCall line) = Some (lack.Fault (fault.BadCall line))
lack_of_relay script.Unfinished = Some (lack.Fault fault.Unfinished)
lack_of_relay script.InvalidKey = Some (lack.Fault fault.InvalidKey)
lack_of_relay script.InvalidNumber = Some (lack.Fault fault.InvalidNumber)
lack_of_relay script.NoMemory = Some lack.NoMemory
lack_of_relay script.Write = None

-- of bytes that are no tape
abbrev pub lack_of_tape : TapeError → Lack
lack_of_tape (tape.Bad at) = lack.Fault (fault.BadTape at)

-- of a tape's calls, which don't refuse
abbrev pub lack_of_check : CheckError → Option Lack
lack_of_check (check.BadCall number) = Some (lack.Fault (fault.BadCall number))
lack_of_check check.Unfinished = Some (lack.Fault fault.Unfinished)
lack_of_check check.NoMemory = Some lack.NoMemory
lack_of_check check.Refused = None

-- of a tape's calls that are written to memory as JSON, where the others don't come
abbrev pub lack_of_text : ErrorKind → Option Lack
lack_of_text writing.InvalidKey = Some (lack.Fault fault.InvalidKey)
lack_of_text writing.InvalidNumber = Some (lack.Fault fault.InvalidNumber)
lack_of_text writing.NoMemory = Some lack.NoMemory
lack_of_text writing.IO = None
lack_of_text writing.Generic = None

-- of a line that is no path; a word needs no path before it
abbrev pub lack_of_path : ℕ → PathError → Option Lack
lack_of_path line path.BadWord = Some (lack.Fault (fault.BadPath line))
lack_of_path line path.NoMemory = Some lack.NoMemory
lack_of_path line path.NoPath = None

-- of a document that is filtered to memory, where no write fails
abbrev pub lack_of_document : DocumentError → Option Lack
lack_of_document (document.NotUtf8 at) = Some (lack.Fault (fault.NotUtf8 at))
lack_of_document (document.BadJson at) = Some (lack.Fault (fault.BadJson at))
lack_of_document document.NotInteger = Some (lack.Fault fault.NotInteger)
lack_of_document document.NoMemory = Some lack.NoMemory
lack_of_document document.WriteFault = None

-- ---- what is made of an input

-- the fault is what is due of the input, or memory was wanting
abbrev pub IsLacking : (Option Fault → List ℕ → Type 0) → Lack → Type 0
IsLacking Due (lack.Fault why) = (before : List ℕ) × Due (Some why) before
IsLacking Due lack.NoMemory = ⊤

-- the bytes are what is due of the input, or there are none for this lack
abbrev pub GivesOrLacks : {Bytes : Type 0} → (Option Fault → List ℕ → Type 0) → Result Bytes Lack → (Bytes → List ℕ) → Type 0
GivesOrLacks Due (Ok made) items = Due None (items made)
GivesOrLacks Due (Err why) items = IsLacking Due why
