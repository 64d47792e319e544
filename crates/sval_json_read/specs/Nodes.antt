-- A document as it is kept: one flat list, where numbers and strings are places in the bytes.
use Rattle.std.specs.Prelude.{ℕ, Bool, List, map, flat_map}
use Rattle.std.specs.List.{between}
use Rattle.sval_label.specs.Calls.{Call}
use Rattle.sval_json_read.specs.Tokens as token
use Rattle.sval_json_read.specs.Tokens.{Place, Token, Placed, placed_at}
use Rattle.sval_json_read.specs.Calls.{placed_token_calls}

-- a number or a string, without its quotes, stands from a place up to another
pub data Kept : Type 0 where
  Null : Kept
  Truth : Bool → Kept
  Number : (from upto : ℕ) → Kept
  Text : (from upto : ℕ) → Kept
  BeginArray : Kept
  EndArray : Kept
  BeginObject : Kept
  EndObject : Kept

-- a token as it is kept, with its place
pub record JsonNode : Type 0 where
  pub place : Place
  pub kept : Kept

-- the token that is kept so, whose number or string stands in these bytes
abbrev pub token_in : List ℕ → Kept → Token
token_in bytes Null = token.Null
token_in bytes (Truth b) = token.Truth b
token_in bytes (Number from upto) = token.Number (between from upto bytes)
token_in bytes (Text from upto) = token.Text (between from upto bytes)
token_in bytes BeginArray = token.BeginArray
token_in bytes EndArray = token.EndArray
token_in bytes BeginObject = token.BeginObject
token_in bytes EndObject = token.EndObject

-- the token of a node, in its place
abbrev pub placed_in : List ℕ → JsonNode → Placed
placed_in bytes node = placed_at node.place (token_in bytes node.kept)

-- the tokens of the nodes, in order
abbrev pub tokens_in : List ℕ → List JsonNode → List Placed
tokens_in bytes nodes = map (placed_in bytes) nodes

-- the calls of the nodes, one node after the other
abbrev pub streamed : List ℕ → List JsonNode → List Call
streamed bytes nodes = flat_map (λ node. placed_token_calls (placed_in bytes node)) nodes
