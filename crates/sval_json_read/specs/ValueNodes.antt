-- Tokens and nodes that are those of a value, of the items of an array, or of the pairs of an object.
use Rattle.std.specs.Prelude.{ℕ, List, [], ◌∷◌, ◌++◌, map}
use Rattle.sval_json.specs.Grammar.{JsonValue, Values, no_values, a_value, Members, no_members, a_member, IsString, IsValue}
use Rattle.sval_json_read.specs.declared.node.Node as made_node
use Rattle.sval_json_read.specs.Tokens.{Alone, Item, Key, Value, Text, Placed, placed_at, between_quotes, tokens_of}
use Rattle.sval_json_read.specs.Nodes.{tokens_in}
use Rattle.sval_json_read.specs.SeenNodes.{seen_node, AreKeptOf}
use Rattle.sval_json_read.specs.NodeCounts.{AreCounted}

-- tokens of a value
pub data IsOfValue : List Placed → JsonValue → Type 0 where
  alone : {bytes rest : List ℕ} {value : JsonValue} (is_value : IsValue bytes value rest) → IsOfValue (tokens_of Alone is_value) value
  item : {bytes rest : List ℕ} {value : JsonValue} (is_value : IsValue bytes value rest) → IsOfValue (tokens_of Item is_value) value
  of_pair : {bytes rest : List ℕ} {value : JsonValue} (is_value : IsValue bytes value rest) → IsOfValue (tokens_of Value is_value) value

-- tokens of values, as items of an array
pub data IsOfValues : List Placed → Values → Type 0 where
  no_items : IsOfValues [] no_values
  an_item : {bytes rest : List ℕ} {value : JsonValue} {tokens : List Placed} {values : Values} (is_value : IsValue bytes value rest) → IsOfValues tokens values
      → IsOfValues (tokens_of Item is_value ++ tokens) (a_value value values)

-- tokens of the pairs of an object
pub data IsOfMembers : List Placed → Members → Type 0 where
  no_pairs : IsOfMembers [] no_members
  a_pair : {key text colon bytes rest : List ℕ} {value : JsonValue} {tokens : List Placed} {members : Members} (string : IsString key text colon) (is_value : IsValue bytes value rest)
      → IsOfMembers tokens members
      → IsOfMembers (placed_at Key (Text (between_quotes string)) ∷ (tokens_of Value is_value ++ tokens)) (a_member text value members)

-- nodes of a value
pub record AreOfValue (bytes : List ℕ) (nodes : List made_node.Node) : Type 0 where
  pub kept : AreKeptOf bytes nodes
  pub counted : AreCounted nodes
  pub value : JsonValue
  pub is_of : IsOfValue (tokens_in bytes (map seen_node nodes)) value

-- nodes of values, as items of an array
pub record AreOfValues (bytes : List ℕ) (nodes : List made_node.Node) : Type 0 where
  pub kept : AreKeptOf bytes nodes
  pub counted : AreCounted nodes
  pub values : Values
  pub are_of : IsOfValues (tokens_in bytes (map seen_node nodes)) values

-- nodes of the pairs of an object
pub record AreOfMembers (bytes : List ℕ) (nodes : List made_node.Node) : Type 0 where
  pub kept : AreKeptOf bytes nodes
  pub counted : AreCounted nodes
  pub members : Members
  pub are_of : IsOfMembers (tokens_in bytes (map seen_node nodes)) members
