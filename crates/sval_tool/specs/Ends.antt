-- How the program ends, and its status.
use Rattle.std.specs.Prelude.{ℕ}
use Rattle.sval_tool.specs.declared.end.End.{End}
use Rattle.sval_tool.specs.declared.end.End.TheVariants as ends
use Rattle.sval_tool.specs.declared.error.DocumentError.{DocumentError}
use Rattle.sval_tool.specs.declared.error.DocumentError.TheVariants as document
use Rattle.sval_tool.specs.declared.inputs.ConvertError.{ConvertError}
use Rattle.sval_tool.specs.declared.inputs.ConvertError.TheVariants as convert

-- the status of the process
abbrev pub status_of : End → ℕ
status_of ends.Done = 0
status_of ends.BadInput = 1
status_of ends.Usage = 2
status_of ends.Fault = 3

-- bytes that are no JSON, or have no CBOR, are a bad input; else the output failed, or memory was wanting
abbrev pub end_of_document : DocumentError → End
end_of_document (document.NotUtf8 at) = ends.BadInput
end_of_document (document.BadJson at) = ends.BadInput
end_of_document document.NotInteger = ends.BadInput
end_of_document document.WriteFault = ends.Fault
end_of_document document.NoMemory = ends.Fault

-- an input that wasn't read is a fault
abbrev pub end_of : ConvertError → End
end_of (convert.Unread why) = ends.Fault
end_of (convert.Document why) = end_of_document why
end_of (convert.Line number why) = end_of_document why
