-- How many nodes an array or object has, as its begin counts them.
use Rattle.std.specs.Prelude.{◌≡◌, ◌<◌, ◌^◌, ℕ, suc, ◌+◌, min, List, [], ◌∷◌, ◌++◌, map, length, ⊤}
use Rattle.sval_json_read.specs.declared.node.Place.{Place}
use Rattle.sval_json_read.specs.declared.node.Node.{Node}
use Rattle.sval_json_read.specs.declared.node.Node.TheVariants as node
use Rattle.sval_json_read.specs.declared.stack.Opened.{Opened}
use Rattle.sval_json_read.specs.declared.stack.Opened.TheVariants as opened
use Rattle.sval_json_read.specs.NodeSpans.{span}
use Rattle.sval_json_read.specs.SeenNodes.{seen_node}
use Rattle.sval_json_read.specs.Offsets.{number_of, offset_of}

-- the begin of an array or object, with what it holds
abbrev pub begin_of : Opened → Place → ℕ → Node
begin_of opened.Array place held = node.BeginArray place (offset_of held)
begin_of opened.Object place held = node.BeginObject place (offset_of held)

-- its end
abbrev pub end_of : Opened → Place → Node
end_of opened.Array place = node.EndArray place
end_of opened.Object place = node.EndObject place

-- what a begin holds
abbrev pub count_in : Node → ℕ
count_in (node.BeginArray place held) = number_of held
count_in (node.BeginObject place held) = number_of held
count_in _ = 0

-- a begin that holds this
abbrev pub with_count : ℕ → Node → Node
with_count count (node.Null place) = node.Null place
with_count count (node.Bool place b) = node.Bool place b
with_count count (node.Number place from size) = node.Number place from size
with_count count (node.Text place from size) = node.Text place from size
with_count count (node.BeginArray place held) = node.BeginArray place (offset_of count)
with_count count (node.EndArray place) = node.EndArray place
with_count count (node.BeginObject place held) = node.BeginObject place (offset_of count)
with_count count (node.EndObject place) = node.EndObject place

-- a node, without what it holds
abbrev pub uncounted : Node → Node
uncounted one = with_count 0 one

-- it begins and ends nothing
abbrev pub IsLeaf : Node → Type 0
IsLeaf (node.BeginArray place held) = ⊥
IsLeaf (node.EndArray place) = ⊥
IsLeaf (node.BeginObject place held) = ⊥
IsLeaf (node.EndObject place) = ⊥
IsLeaf _ = ⊤

-- a begin counts the nodes of the value that these nodes begin with; it counts none that isn't there
abbrev pub CountsSpan : Node → List Node → Type 0
CountsSpan (node.BeginArray place count) nodes = min (number_of count) (length nodes) ≡ span 0 (map seen_node nodes)
CountsSpan (node.BeginObject place count) nodes = min (number_of count) (length nodes) ≡ span 0 (map seen_node nodes)
CountsSpan _ nodes = ⊤

-- each begin counts its nodes
abbrev pub AreCounted : List Node → Type 0
AreCounted [] = ⊤
AreCounted (one ∷ nodes) = CountsSpan one (one ∷ nodes) × AreCounted nodes

-- ---- while a text is read

-- nodes whose begins count their nodes, whatever comes behind
abbrev pub AreSettled : List Node → Type 0
AreSettled nodes = (behind : List Node) → AreCounted behind → AreCounted (nodes ++ behind)

-- nodes of whole values within something that is open
pub record AreWhole (nodes : List Node) : Type 0 where
  pub settled : AreSettled nodes
  pub passed : (depth : ℕ) (behind : List Node) → span (suc depth) (map seen_node (nodes ++ behind)) ≡ length nodes + span (suc depth) (map seen_node behind)

-- the number is that of the nodes up to the innermost begin without an end, and each such begin holds that of the one around it
pub data IsChain : List Node → ℕ → Type 0 where
  nothing_open : {nodes : List Node} → AreSettled nodes → IsChain nodes 0
  opened_in : {around whole : List Node} {outer : ℕ} (container : Opened) (place : Place) → IsChain around outer → AreWhole whole
      → IsChain (around ++ (begin_of container place outer ∷ whole)) (suc (length around))

-- such a chain of nodes that a begin can count
abbrev pub IsFewChain : List Node → ℕ → Type 0
IsFewChain nodes innermost = IsChain nodes innermost × (length nodes < 2 ^ 48)
