-- Nodes that are written as they were read.
use Rattle.std.specs.Prelude.{◌≡◌, ℕ, ◌≤◌, Bool, List, ◌++◌, drop, length, map}
use Rattle.sval_json_read.specs.declared.node.Node.{Node}
use Rattle.sval_json_read.specs.declared.unchanged.Unchanged.{Unchanged}
use Rattle.sval_json_read.specs.Nodes.{tokens_in}
use Rattle.sval_json_read.specs.SeenNodes.{seen_node, AreKeptOf}
use Rattle.sval_json_read.specs.TextParts.{IsPartOf, IsReadyPart, part_bytes}
use Rattle.sval_json_read.specs.TokenTexts.{tokens_text}

-- the JSON of nodes
abbrev pub nodes_text : Bool → List ℕ → List Node → List ℕ
nodes_text is_first text nodes = tokens_text is_first (tokens_in text (map seen_node nodes))

-- the JSON of these nodes is a part of the text, and behind it the JSON of those from the count on
pub record IsUnchanged (text : List ℕ) (is_first : Bool) (nodes : List Node) (found : Unchanged) : Type 0 where
  pub within : found.count ≤ length nodes
  pub part : IsPartOf text found.part
  pub ready : IsReadyPart text found.ready
  pub kept : AreKeptOf text (drop found.count nodes)
  pub same : nodes_text is_first text nodes ≡ part_bytes text found.part ++ nodes_text found.is_first text (drop found.count nodes)
