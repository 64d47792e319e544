-- What the nodes of the code stand for, and where they stand.
use Rattle.std.specs.Prelude.{ℕ, ◌+◌, ◌≤◌, List, length, IsCharBoundary, ⊤}
use Rattle.std.specs.List.{AllByRecursion}
use Rattle.sval_json_read.specs.declared.node.Place as made_place
use Rattle.sval_json_read.specs.declared.node.Place.TheVariants as place
use Rattle.sval_json_read.specs.declared.node.Node as made_node
use Rattle.sval_json_read.specs.declared.node.Node.TheVariants as node
use Rattle.sval_json_read.specs.Tokens as tokens
use Rattle.sval_json_read.specs.Nodes as nodes
use Rattle.sval_json_read.specs.RawStrings.{IsProperToken}
use Rattle.sval_json_read.specs.Offsets.{number_of}

-- a place of the code
abbrev pub node_place : made_place.Place → tokens.Place
node_place place.Alone = tokens.Alone
node_place place.Item = tokens.Item
node_place place.Key = tokens.Key
node_place place.Value = tokens.Value

-- a node with this place
abbrev pub placed_node : made_place.Place → nodes.Kept → nodes.JsonNode
placed_node place kept = record { place = node_place place; kept = kept }

-- a node of the code: what has a length ends so many bytes behind its begin
abbrev pub seen_node : made_node.Node → nodes.JsonNode
seen_node (node.Null place) = placed_node place nodes.Null
seen_node (node.Bool place value) = placed_node place (nodes.Truth value)
seen_node (node.Number place from length) = placed_node place (nodes.Number (number_of from) (number_of from + length))
seen_node (node.Text place from length) = placed_node place (nodes.Text (number_of from) (number_of from + length))
seen_node (node.BeginArray place count) = placed_node place nodes.BeginArray
seen_node (node.EndArray place) = placed_node place nodes.EndArray
seen_node (node.BeginObject place count) = placed_node place nodes.BeginObject
seen_node (node.EndObject place) = placed_node place nodes.EndObject

-- a number ends within the bytes, and a string begins and ends with whole characters
abbrev pub StandsIn : List ℕ → made_node.Node → Type 0
StandsIn bytes (node.Number place from size) = number_of from + size ≤ length bytes
StandsIn bytes (node.Text place from size) = IsCharBoundary bytes (number_of from) × IsCharBoundary bytes (number_of from + size)
StandsIn bytes _ = ⊤

-- both begin and end with whole characters
abbrev pub IsCutFrom : List ℕ → made_node.Node → Type 0
IsCutFrom bytes (node.Number place from size) = IsCharBoundary bytes (number_of from) × IsCharBoundary bytes (number_of from + size)
IsCutFrom bytes (node.Text place from size) = IsCharBoundary bytes (number_of from) × IsCharBoundary bytes (number_of from + size)
IsCutFrom bytes _ = ⊤

-- a node whose number or string can be cut from the bytes: a number of JSON, or unescaped bytes and whole escapes
pub record IsKeptOf (bytes : List ℕ) (kept : made_node.Node) : Type 0 where
  pub cut : IsCutFrom bytes kept
  pub proper : IsProperToken (nodes.token_in bytes (seen_node kept).kept)

-- all nodes are so
abbrev pub AreKeptOf : List ℕ → List made_node.Node → Type 0
AreKeptOf bytes all = AllByRecursion (IsKeptOf bytes) all
