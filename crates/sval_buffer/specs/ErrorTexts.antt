-- What errors say.
use Rattle.std.specs.Prelude.{ℕ, List, ◌++◌, codes}
use Rattle.sval_buffer.specs.declared.error.Word.{Word}
use Rattle.sval_buffer.specs.declared.error.Word.TheVariants as word
use Rattle.sval_buffer.specs.declared.error.ErrorKind.{ErrorKind}
use Rattle.sval_buffer.specs.declared.error.ErrorKind.TheVariants as error

-- what a word says
abbrev pub word_text : Word → List ℕ
word_text word.Null = codes "null"
word_text word.Boolean = codes "boolean"
word_text word.Integer = codes "integer"
word_text word.Sequence = codes "sequence"
word_text word.Text = codes "text"
word_text word.Binary = codes "binary"
word_text word.Map = codes "map"
word_text word.FailedToStream = codes "the value itself failed to stream"
word_text word.FormattingFailed = codes "formatting failed"
word_text word.Unbalanced = codes "unbalanced calls to `begin` and `end`"

-- what an error says
abbrev pub buffer_error_text : ErrorKind → List ℕ
buffer_error_text (error.Unsupported actual expected) = codes "unexpected " ++ (word_text actual ++ (codes ", expected " ++ word_text expected))
buffer_error_text (error.InvalidValue reason) = codes "the value is invalid: " ++ word_text reason
buffer_error_text (error.OutsideContainer method) = codes "expected a fragment while buffering " ++ word_text method
buffer_error_text (error.NoAlloc method) = codes "cannot allocate for " ++ word_text method
