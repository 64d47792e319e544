-- The nodes that are kept of a text that denotes a value.
use Rattle.std.specs.Prelude.{ℕ, List, map}
use Rattle.sval_json_read.specs.declared.node.Node as made_node
use Rattle.sval_json_read.specs.Documents.{IsDocument}
use Rattle.sval_json_read.specs.Nodes.{tokens_in}
use Rattle.sval_json_read.specs.SeenNodes.{seen_node, AreKeptOf}
use Rattle.sval_json_read.specs.NodeCounts.{AreCounted}

-- the nodes are the tokens of what some of the bytes denote, their numbers and strings can be cut from these, and each begin counts its nodes
pub record IsKeptDocument (bytes : List ℕ) (nodes : List made_node.Node) : Type 0 where
  pub kept : AreKeptOf bytes nodes
  pub counted : AreCounted nodes
  pub denoting : List ℕ
  pub document : IsDocument denoting (tokens_in bytes (map seen_node nodes))
