-- What errors read as.
use Rattle.std.specs.Prelude.{ℕ, List, ◌++◌, codes}
use Rattle.std.specs.Fmt.{decimal}
use Rattle.sval_lines.specs.ErrorTexts.{line_error_text}
use Rattle.sval_tool.specs.declared.error.DocumentError.{DocumentError}
use Rattle.sval_tool.specs.declared.error.DocumentError.TheVariants as document
use Rattle.sval_tool.specs.declared.inputs.ConvertError.{ConvertError}
use Rattle.sval_tool.specs.declared.inputs.ConvertError.TheVariants as convert
use Rattle.sval_tool.specs.declared.lines.LinesError.{LinesError}
use Rattle.sval_tool.specs.declared.lines.LinesError.TheVariants.{Unread, Line}

-- what is said of a document
abbrev pub document_error_text : DocumentError → List ℕ
document_error_text (document.NotUtf8 at) = codes "invalid UTF-8 at byte " ++ decimal at
document_error_text (document.BadJson at) = codes "invalid JSON at byte " ++ decimal at
document_error_text document.NotInteger = codes "attempt to write a number that is no whole number of 128 bits"
document_error_text document.WriteFault = codes "write fault"
document_error_text document.NoMemory = codes "out of memory"

-- what is said of lines
abbrev pub lines_error_text : LinesError → List ℕ
lines_error_text (Unread why) = line_error_text why
lines_error_text (Line number why) = codes "line " ++ decimal number ++ codes ": " ++ document_error_text why

-- what is said of inputs
abbrev pub convert_error_text : ConvertError → List ℕ
convert_error_text (convert.Unread why) = line_error_text why
convert_error_text (convert.Document why) = document_error_text why
convert_error_text (convert.Line number why) = codes "line " ++ decimal number ++ codes ": " ++ document_error_text why
