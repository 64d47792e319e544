-- What reading bytes answers.
use Rattle.std.specs.Prelude.{◌≡◌, ℕ, ◌≤◌, List, length, take, Some, IsUtf8}
use Rattle.std.specs.Str.{IsValidUpTo}
use Rattle.sval_label.specs.Calls.{Call}
use Rattle.sval_core.specs.Spells.{Spells}
use Rattle.sval_json_read.specs.declared.document.ReadError.{ReadError}
use Rattle.sval_json_read.specs.declared.document.ReadError.TheVariants.{NotUtf8, BadJson, NoMemory}
use Rattle.sval_json_read.specs.Trees.{tree_of}
use Rattle.sval_json_read.specs.Tokens.{Placed}
use Rattle.sval_json_read.specs.Calls.{document_calls}
use Rattle.sval_json_read.specs.Documents.{IsDocument, IsBadJson}
use Rattle.sval_json_read.specs.Reader.{ReaderState, reader_start, after_bytes}
use Rattle.sval_json_read.specs.SeenReader.{HasToken}

-- the bytes denote a value, these are the calls of its tokens, and they spell its tree
pub record IsReadText (bytes : List ℕ) (calls : List Call) : Type 0 where
  pub tokens : List Placed
  pub document : IsDocument bytes tokens
  pub same : calls ≡ document_calls tokens
  pub spells : Spells calls (tree_of document.value)

-- after some first bytes the machine has kept a token, or it reads a number that may end there
pub record KeepsSome (bytes : List ℕ) : Type 0 where
  pub count : ℕ
  pub within : count ≤ length bytes
  pub state : ReaderState
  pub reached : after_bytes reader_start (take count bytes) ≡ Some state
  pub keeps : HasToken state

-- the cause of each error of a text, which is UTF-8: it denotes no value and fails there, or some node is kept of it
abbrev pub IsTextReadError : List ℕ → ReadError → Type 0
IsTextReadError bytes (NotUtf8 at) = ⊥
IsTextReadError bytes (BadJson at) = IsBadJson bytes at
IsTextReadError bytes NoMemory = KeepsSome bytes

-- the cause of each error: the bytes are no UTF-8 and their longest front that is ends there, they denote no value and fail there, or they are UTF-8 and some node is kept of them
abbrev pub IsJsonReadError : List ℕ → ReadError → Type 0
IsJsonReadError bytes (NotUtf8 at) = (IsUtf8 bytes → ⊥) × IsValidUpTo bytes at
IsJsonReadError bytes (BadJson at) = IsBadJson bytes at
IsJsonReadError bytes NoMemory = IsUtf8 bytes × KeepsSome bytes
