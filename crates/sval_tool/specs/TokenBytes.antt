-- The CBOR of tokens of a document, one after the other.
use Rattle.std.specs.Prelude.{◌≡◌, ⊤, ℕ, Bool, true, false, if◌then◌else◌, List, [], ◌∷◌, ◌++◌, Result, Ok, Err}
use Rattle.sval_core.specs.Trees.{Tree}
use Rattle.sval_io.specs.Taken.{Taken}
use Rattle.sval_json.specs.Json.{null}
use Rattle.sval_json.specs.Number.{normal}
use Rattle.sval_filter.specs.Paths.{Path}
use Rattle.sval_filter.specs.declared.paths.Rule.{Rule}
use Rattle.sval_filter.specs.Walks.{walk_start}
use Rattle.sval_json_read.specs.SeenValues.{text_in}
use Rattle.sval_json_read.specs.Tokens as token
use Rattle.sval_json_read.specs.Tokens.{Token, Placed}
use Rattle.sval_json_read.specs.Trees.{fits_i64, whole_value}
use Rattle.sval_cbor.specs.Packs.{PackRefusal, NotInteger, on_packed, map_packed, number_pack, pack_of}
use Rattle.sval_cbor.specs.Cbor.{string, integer, truth_bytes, cbor}
use Rattle.sval_tool.specs.LeftTokens.{left_tokens}
use Rattle.sval_tool.specs.declared.packed.Unpacked.{Unpacked}
use Rattle.sval_tool.specs.declared.packed.Unpacked.TheVariants as unpacked

-- bytes, or why there are none
abbrev pub MaybeBytes : Type 0
MaybeBytes = Result (List ℕ) PackRefusal

-- bytes and others behind them, or the first refusal
abbrev pub bytes_then : MaybeBytes → MaybeBytes → MaybeBytes
bytes_then first rest = on_packed first (λ bytes. map_packed (λ more. bytes ++ more) rest)

-- the bytes of a number, by its text
abbrev pub number_bytes_of : List ℕ → MaybeBytes
number_bytes_of text = if fits_i64 text then Ok (integer (whole_value text)) else map_packed cbor (number_pack (normal text))

-- the bytes of a token, wherever it stands
abbrev pub token_bytes : Token → MaybeBytes
token_bytes token.Null = Ok (cbor null)
token_bytes (token.Truth b) = Ok (truth_bytes b)
token_bytes (token.Number text) = number_bytes_of text
token_bytes (token.Text raw) = Ok (string 3 (text_in raw))
token_bytes token.BeginArray = Ok (0x9f ∷ [])
token_bytes token.EndArray = Ok (0xff ∷ [])
token_bytes token.BeginObject = Ok (0xbf ∷ [])
token_bytes token.EndObject = Ok (0xff ∷ [])

-- the bytes of tokens, or the first refusal
abbrev pub tokens_bytes : List Placed → MaybeBytes
tokens_bytes [] = Ok []
tokens_bytes (placed ∷ tokens) = bytes_then (token_bytes placed.token) (tokens_bytes tokens)

-- the bytes of what a tree packs to, or why there are none
abbrev pub tree_bytes : Tree → MaybeBytes
tree_bytes tree = map_packed cbor (pack_of tree)

-- the bytes of a token, if it stays
abbrev pub passed_bytes : Bool → Token → MaybeBytes
passed_bytes true token = token_bytes token
passed_bytes false token = Ok []

-- the bytes of the tokens of a document that a rule and paths leave
abbrev pub left_bytes : Rule → List Path → List Placed → MaybeBytes
left_bytes rule paths tokens = tokens_bytes (left_tokens (walk_start rule paths) tokens)

-- these bytes were due, and a sink in memory took them
pub record TookBytes (due : MaybeBytes) (old new : Taken) : Type 0 where
  pub bytes : List ℕ
  pub are : due ≡ Ok bytes
  pub took : new.bytes ≡ old.bytes ++ bytes

-- what comes of bytes that are due of a sink in memory: it took them, or a number isn't whole, or memory was wanting
abbrev pub TakesDue : Result (Unit {0}) Unpacked → MaybeBytes → Taken → Taken → Type 0
TakesDue (Ok done) due old new = TookBytes due old new
TakesDue (Err unpacked.NotInteger) due old new = due ≡ Err NotInteger
TakesDue (Err unpacked.NoMemory) due old new = ⊤
