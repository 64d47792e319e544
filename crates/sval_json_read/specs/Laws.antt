-- The laws of reading JSON, as facts.
use Rattle.std.specs.Prelude.{◌≡◌, ℕ, ◌^◌, ◌<◌, ◌≤◌, length, List, ◌∷◌, [], map, Some, None, ◌⊎◌, Ok, IsUtf8, ⊤}
use Rattle.std.specs.List.{concat}
use Rattle.sval_core.specs.Real.{IsReal, IsPrintable}
use Rattle.sval_core.specs.Spells.{Spells}
use Rattle.sval_json.specs.Json.{Json, compact}
use Rattle.sval_json.specs.Shape.{json_of}
use Rattle.sval_json.specs.Grammar.{JsonValue, IsString, Denotes}
use Rattle.sval_json.specs.Fronts.{FailsAt}
use Rattle.sval_json.specs.Promises.{KeepsPromises}
use Rattle.sval_json.specs.Laws.{IsTheValueOf}
use Rattle.sval_json_read.specs.Trees.{tree_of, settled}
use Rattle.sval_json_read.specs.Tokens.{Placed, between_quotes}
use Rattle.sval_json_read.specs.Documents.{IsDocument, IsBadJson}
use Rattle.sval_json_read.specs.Pointers.{pointed}
use Rattle.sval_json_read.specs.Calls.{Piece, run, escape, piece_bytes, pieces, document_calls}
use Rattle.sval_json_read.specs.RawStrings.{AreProperTokens}
use Rattle.sval_json_read.specs.Nodes.{JsonNode, tokens_in, streamed}
use Rattle.sval_json_read.specs.Reader.{tokens_read, bytes_taken}

-- the tree of a value that some bytes denote is one that a program's calls can spell, and it promises nothing of raw texts
abbrev pub TreesAreReal : Type 0
TreesAreReal = (bytes : List ℕ) (value : JsonValue) → Denotes bytes value → IsReal (tree_of value) × KeepsPromises (tree_of value)

-- and that a script can spell, where the length of the bytes has 64 bits
abbrev pub TreesArePrintable : Type 0
TreesArePrintable = (bytes : List ℕ) (value : JsonValue) → length bytes < 2 ^ 64 → Denotes bytes value → IsPrintable (tree_of value)

-- what is written of that tree denotes the settled value, and no other
abbrev pub WrittenAgainSettles : Type 0
WrittenAgainSettles = (bytes : List ℕ) (value : JsonValue) → Denotes bytes value → (json : Json) × (json_of (tree_of value) ≡ Ok json) × IsTheValueOf json (settled value)

-- and is no longer than the bytes
abbrev pub WrittenAgainIsNoLonger : Type 0
WrittenAgainIsNoLonger =
    (bytes : List ℕ) (value : JsonValue) (json : Json) → Denotes bytes value → json_of (tree_of value) ≡ Ok json → length (compact json) ≤ length bytes

-- so is the tree of what a pointer references in such a value
abbrev pub ReferencedAreReal : Type 0
ReferencedAreReal = (bytes pointer : List ℕ) (value part : JsonValue) → Denotes bytes value → pointed pointer value ≡ Some part → IsReal (tree_of part) × KeepsPromises (tree_of part)

-- and what is written of that denotes it settled, and no other value
abbrev pub ReferencedSettles : Type 0
ReferencedSettles =
    (bytes pointer : List ℕ) (value part : JsonValue) → Denotes bytes value → pointed pointer value ≡ Some part
    → (json : Json) × (json_of (tree_of part) ≡ Ok json) × IsTheValueOf json (settled part)

-- the pieces of a string's bytes are its text
abbrev pub PiecesAreTheText : Type 0
PiecesAreTheText = (bytes text rest : List ℕ) (string : IsString bytes text rest) → concat (map piece_bytes (pieces (between_quotes string))) ≡ text

-- no run is empty, and none follows another
abbrev pub AreLongest : List Piece → Type 0
AreLongest [] = ⊤
AreLongest (run [] ∷ _) = ⊥
AreLongest (run (_ ∷ _) ∷ run _ ∷ _) = ⊥
AreLongest (run (_ ∷ _) ∷ pieces) = AreLongest pieces
AreLongest (escape _ ∷ pieces) = AreLongest pieces

-- the runs among a string's pieces are as long as they can be
abbrev pub RunsAreLongest : Type 0
RunsAreLongest = (bytes : List ℕ) → AreLongest (pieces bytes)

-- the calls of a document spell the tree of its value
abbrev pub JsonDocumentsSpell : Type 0
JsonDocumentsSpell = (bytes : List ℕ) (tokens : List Placed) (document : IsDocument bytes tokens) → Spells (document_calls tokens) (tree_of document.value)

-- and so do those of the flat list in which it is kept, one node after the other
abbrev pub NodesSpell : Type 0
NodesSpell = (bytes : List ℕ) (nodes : List JsonNode) (document : IsDocument bytes (tokens_in bytes nodes)) → Spells (streamed bytes nodes) (tree_of document.value)

-- nodes make the calls of the tokens that they keep
abbrev pub NodesMakeTheCalls : Type 0
NodesMakeTheCalls = (bytes : List ℕ) (nodes : List JsonNode) → streamed bytes nodes ≡ document_calls (tokens_in bytes nodes)

-- the numbers of a document are numbers of JSON, and its strings have unescaped bytes and whole escapes
abbrev pub TokensAreProper : Type 0
TokensAreProper = (bytes : List ℕ) (tokens : List Placed) → IsDocument bytes tokens → AreProperTokens tokens

-- bytes have one list of tokens at most
abbrev pub OneDocument : Type 0
OneDocument = (bytes : List ℕ) (tokens others : List Placed) → IsDocument bytes tokens → IsDocument bytes others → tokens ≡ others

-- the machine reads exactly the texts that denote a value, and gives their tokens
abbrev pub ReadsTheDocuments : Type 0
ReadsTheDocuments = (bytes : List ℕ) (tokens : List Placed) → (IsDocument bytes tokens → tokens_read bytes ≡ Some tokens) × (IsUtf8 bytes → tokens_read bytes ≡ Some tokens → IsDocument bytes tokens)

-- and refuses the others: what it takes of them before it refuses a byte, or lacks one, is where they fail
abbrev pub RefusesTheOthers : Type 0
RefusesTheOthers = (bytes : List ℕ) → IsUtf8 bytes → tokens_read bytes ≡ None → IsBadJson bytes (bytes_taken bytes)

-- bytes that are UTF-8 are a document or fail
abbrev pub IsReadOrBad : Type 0
IsReadOrBad =
    (bytes : List ℕ) → IsUtf8 bytes
    → ((tokens : List Placed) × IsDocument bytes tokens) ⊎ ((n : ℕ) × IsBadJson bytes n)

-- no bytes both are a document and fail
abbrev pub NotBoth : Type 0
NotBoth = (bytes : List ℕ) (tokens : List Placed) (n : ℕ) → IsDocument bytes tokens → IsBadJson bytes n → ⊥

-- what it takes of UTF-8 before it refuses a byte is the longest front of a text that denotes a value
abbrev pub StopsWhereTheyFail : Type 0
StopsWhereTheyFail = (bytes : List ℕ) → IsUtf8 bytes → FailsAt bytes (bytes_taken bytes)

-- and there is no second such place
abbrev pub FailsAtOnePlace : Type 0
FailsAtOnePlace = (bytes : List ℕ) (n m : ℕ) → FailsAt bytes n → FailsAt bytes m → n ≡ m
