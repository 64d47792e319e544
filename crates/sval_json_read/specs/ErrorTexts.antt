-- What an error says.
use Rattle.std.specs.Prelude.{ℕ, List, ◌++◌, codes}
use Rattle.std.specs.Fmt.{decimal}
use Rattle.sval_json_read.specs.declared.document.ReadError.{ReadError}
use Rattle.sval_json_read.specs.declared.document.ReadError.TheVariants as read

-- the text of an error
abbrev pub read_error_text : ReadError → List ℕ
read_error_text (read.NotUtf8 at) = codes "invalid UTF-8 at byte " ++ decimal at
read_error_text (read.BadJson at) = codes "invalid JSON at byte " ++ decimal at
read_error_text read.NoMemory = codes "cannot allocate for a document"
