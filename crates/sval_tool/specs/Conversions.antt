-- What is due of a document, and what writing it leaves of a sink.
use Rattle.std.specs.Prelude.{◌≡◌, ◌⊎◌, ⊤, ℕ, List, [], ◌∷◌, ◌++◌, Result, Ok, Err, IsUtf8}
use Rattle.std.specs.Str.{IsValidUpTo}
use Rattle.sval_core.specs.Trees.{Tree}
use Rattle.sval_io.specs.Sinks.{Told, IsSteady, AppendsFront, WritesWhole, WritesFront}
use Rattle.sval_io.specs.declared.sink.SinkError.{SinkError}
use Rattle.sval_io.specs.declared.sink.SinkError.TheVariants as sink
use Rattle.sval_json.specs.Grammar.{JsonValue, Denotes}
use Rattle.sval_json.specs.Json.{Json}
use Rattle.sval_cbor.specs.Packs.{NotInteger, pack_of}
use Rattle.sval_cbor.specs.Cbor.{cbor}
use Rattle.sval_cbor.specs.declared.error.CborError.{CborError}
use Rattle.sval_cbor.specs.declared.error.CborError.TheVariants as packing
use Rattle.sval_filter.specs.Paths.{Path}
use Rattle.sval_filter.specs.declared.paths.Rule.{Rule}
use Rattle.sval_filter.specs.Pruned.{pruned}
use Rattle.sval_filter.specs.Verdict.{IsJson}
use Rattle.sval_pretty.specs.Layout.{pretty}
use Rattle.sval_json_read.specs.Documents.{IsBadJson}
use Rattle.sval_json_read.specs.ReadErrors.{KeepsSome}
use Rattle.sval_json_read.specs.Trees.{tree_of}
use Rattle.sval_json_read.specs.declared.document.ReadError.{ReadError}
use Rattle.sval_json_read.specs.declared.document.ReadError.TheVariants as read
use Rattle.sval_tool.specs.declared.convert.Conversion.{Conversion}
use Rattle.sval_tool.specs.declared.convert.Target.{Target}
use Rattle.sval_tool.specs.declared.convert.Target.TheVariants as target
use Rattle.sval_tool.specs.declared.error.DocumentError.{DocumentError}
use Rattle.sval_tool.specs.declared.error.DocumentError.TheVariants as document

-- ---- what is due

-- the layout of a tree's JSON, which denotes what the JSON denotes (sval_pretty's law DenotesTheSame)
pub record IsLaidOutJson (text : List ℕ) (tree : Tree) : Type 0 where
  pub json : List ℕ
  pub is : IsJson json tree
  pub laid : text ≡ pretty json

-- the bytes of what a tree packs to
pub record IsPackedCbor (bytes : List ℕ) (tree : Tree) : Type 0 where
  pub json : Json
  pub packs : pack_of tree ≡ Ok json
  pub same : bytes ≡ cbor json

-- the text of a tree, as the target says
abbrev pub IsTextOf : Target → List ℕ → Tree → Type 0
IsTextOf target.Json text tree = IsJson text tree
IsTextOf target.Pretty text tree = IsLaidOutJson text tree
IsTextOf target.Cbor text tree = IsPackedCbor text tree

-- the bytes denote a value, and this is the text of what the rule and the paths leave of its tree
pub record IsTextLeft (rule : Rule) (paths : List Path) (aim : Target) (bytes text : List ℕ) : Type 0 where
  pub value : JsonValue
  pub denotes : Denotes bytes value
  pub is : IsTextOf aim text (pruned rule paths (tree_of value))

-- the same of a conversion: the text that is due of a document
abbrev pub IsDocumentDue : Conversion → List ℕ → List ℕ → Type 0
IsDocumentDue c bytes text = IsTextLeft c.rule c.paths.now c.target bytes text

-- what is written behind a document: a line feed behind JSON, and nothing behind CBOR, whose items need none (RFC 8742)
abbrev pub ending_of : Target → List ℕ
ending_of target.Json = 10 ∷ []
ending_of target.Pretty = 10 ∷ []
ending_of target.Cbor = []

-- and with what is written behind it
abbrev pub IsFedDue : Conversion → List ℕ → List ℕ → Type 0
IsFedDue c bytes text = (document : List ℕ) × IsDocumentDue c bytes document × (text ≡ document ++ ending_of c.target)

-- ---- what writing it leaves of a sink

-- memory was wanting between two parts of a text: a first part of it was taken, and no count moved
pub record PausesIn (why : SinkError) (old : Told) (text : List ℕ) (new : Told) : Type 0 where
  pub want : why ≡ sink.NoMemory
  pub front : AppendsFront old text new
  pub steady : IsSteady old new

-- what writing a text part by part answers
abbrev pub WritesParts : Result (Unit {0}) SinkError → Told → List ℕ → Told → Type 0
WritesParts (Ok done) old text new = WritesWhole old text new
WritesParts (Err why) old text new = WritesFront why old text new ⊎ PausesIn why old text new

-- the text of what is left of a document was written, or a first part of it
pub record WritesLeft (rule : Rule) (paths : List Path) (aim : Target) (bytes : List ℕ) (result : Result (Unit {0}) SinkError) (old new : Told) : Type 0 where
  pub text : List ℕ
  pub due : IsTextLeft rule paths aim bytes text
  pub writes : WritesParts result old text new

-- the same of its JSON
abbrev pub WritesLeftJson : Rule → List Path → List ℕ → Result (Unit {0}) SinkError → Told → Told → Type 0
WritesLeftJson rule paths bytes result old new = WritesLeft rule paths target.Json bytes result old new

-- exactly a text that is due was written
pub record WritesDue (Due : List ℕ → Type 0) (old new : Told) : Type 0 where
  pub text : List ℕ
  pub due : Due text
  pub writes : WritesWhole old text new

-- a first part of a text that is due was written
pub record StopsInDue (why : SinkError) (Due : List ℕ → Type 0) (old new : Told) : Type 0 where
  pub text : List ℕ
  pub due : Due text
  pub stops : WritesParts (Err why) old text new

-- memory was wanting to keep what was read, and nothing was written
pub record LacksMemoryToKeep {K : Type 0} (bytes : List ℕ) (old new : K) : Type 0 where
  pub utf8 : IsUtf8 bytes
  pub keeps : KeepsSome bytes
  pub same : new ≡ old

-- CBOR was asked for, the bytes denote a value, and nothing was written: no cause is asked
pub record LacksMemoryToPack {K : Type 0} (c : Conversion) (bytes : List ℕ) (old new : K) : Type 0 where
  pub to_cbor : c.target ≡ target.Cbor
  pub value : JsonValue
  pub denotes : Denotes bytes value
  pub same : new ≡ old

-- the bytes denote a value, and what is left of its tree doesn't pack: a number has a fraction or an exponent, or isn't from -2^127 to 2^128-1
pub record HasNoCbor (c : Conversion) (bytes : List ℕ) : Type 0 where
  pub to_cbor : c.target ≡ target.Cbor
  pub value : JsonValue
  pub denotes : Denotes bytes value
  pub refused : pack_of (pruned c.rule c.paths.now (tree_of value)) ≡ Err NotInteger

-- why what is due of a document wasn't written, and what is left of the sink
abbrev pub IsDocumentCause : {K : Type 0} → (K → Told) → Conversion → (List ℕ → Type 0) → List ℕ → DocumentError → K → K → Type 0
IsDocumentCause told c Due bytes (document.NotUtf8 at) old new = (IsUtf8 bytes → ⊥) × IsValidUpTo bytes at × (new ≡ old)
IsDocumentCause told c Due bytes (document.BadJson at) old new = IsBadJson bytes at × (new ≡ old)
IsDocumentCause told c Due bytes document.NotInteger old new = HasNoCbor c bytes × (new ≡ old)
IsDocumentCause told c Due bytes document.WriteFault old new = StopsInDue sink.Failed Due (told old) (told new)
IsDocumentCause told c Due bytes document.NoMemory old new =
    LacksMemoryToKeep bytes old new ⊎ (LacksMemoryToPack c bytes old new ⊎ StopsInDue sink.NoMemory Due (told old) (told new))

-- what writing what is due of a document that was read answers
abbrev pub WritesAsked : {K : Type 0} → (K → Told) → Conversion → List ℕ → Result (Unit {0}) DocumentError → K → K → Type 0
WritesAsked told c bytes (Ok done) old new = WritesDue (IsDocumentDue c bytes) (told old) (told new)
WritesAsked told c bytes (Err why) old new = IsDocumentCause told c (IsDocumentDue c bytes) bytes why old new

-- ---- errors of what is below

abbrev pub error_of_read : ReadError → DocumentError
error_of_read (read.NotUtf8 at) = document.NotUtf8 at
error_of_read (read.BadJson at) = document.BadJson at
error_of_read read.NoMemory = document.NoMemory

abbrev pub error_of_sink : SinkError → DocumentError
error_of_sink sink.Failed = document.WriteFault
error_of_sink sink.NoMemory = document.NoMemory

-- what packing a document that was read may answer
abbrev pub IsPackError : CborError → Type 0
IsPackError packing.NotInteger = ⊤
IsPackError packing.Write = ⊤
IsPackError packing.NoMemory = ⊤
IsPackError _ = ⊥

abbrev pub error_of_pack : CborError → DocumentError
error_of_pack packing.NotInteger = document.NotInteger
error_of_pack packing.Write = document.WriteFault
error_of_pack _ = document.NoMemory
