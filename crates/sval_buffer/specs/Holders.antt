-- Which container holds each part of the flat list of a forest: its place, or none.
use Rattle.std.specs.Prelude.{ℕ, ◌+◌, List, [], ◌∷◌, ◌++◌, length, Option, Some, None}
use Rattle.sval_buffer.specs.Forest.{Node, Single, Text, Binary, Container, Nodes, none, ◌and◌, Open, Forest}
use Rattle.sval_buffer.specs.Flat.{flat_row, flat_spine}

abbrev mutual
  -- what holds a part and those in it, where the part stands at this place and this container holds it
  pub holders_node : ℕ → Option ℕ → Node → List (Option ℕ)
  holders_node place holder (Single call) = holder ∷ []
  holders_node place holder (Text held) = holder ∷ []
  holders_node place holder (Binary held) = holder ∷ []
  holders_node place holder (Container begin nodes) = holder ∷ holders_row (place + 1) (Some place) nodes

  -- the same of parts in a row, of which the first stands at this place
  pub holders_row : ℕ → Option ℕ → Nodes → List (Option ℕ)
  holders_row place holder none = []
  holders_row place holder (nodes and node) = holders_row place holder nodes ++ holders_node (place + length (flat_row nodes)) holder node

-- the place of the newest container without an end
abbrev pub newest_place : Nodes → List Open → Option ℕ
newest_place nodes [] = None
newest_place nodes (newest ∷ older) = Some (length (flat_row nodes ++ flat_spine older))

-- a container without an end holds what was put into it
abbrev pub holders_spine : Nodes → List Open → List (Option ℕ)
holders_spine nodes [] = holders_row 0 None nodes
holders_spine nodes (newest ∷ older) =
    let place = length (flat_row nodes ++ flat_spine older) in
    holders_spine nodes older ++ (newest_place nodes older ∷ holders_row (place + 1) (Some place) newest.nodes)

-- the place of what holds each part of a forest
abbrev pub holders : Forest → List (Option ℕ)
holders f = holders_spine f.nodes f.spine
