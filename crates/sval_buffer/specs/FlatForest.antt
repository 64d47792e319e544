-- The forest that a flat list of parts tells, with the places of the containers without an end.
use Rattle.std.specs.Prelude.{ℕ, ◌+◌, ◌-◌, ◌==◌, nat_lt, Bool, true, false, if◌then◌else◌, List, [], ◌∷◌, ◌++◌, length}
use Rattle.sval_label.specs.Calls.{Call}
use Rattle.sval_buffer.specs.Forest.{Node, Single, Text, Binary, Container, Nodes, none, ◌and◌, Open, Forest}
use Rattle.sval_buffer.specs.Flat.{FlatKind, One, Words, Bytes, Holder, FlatPart, flat_node, flat_row, flat_spine}

-- the places of the containers without an end, the oldest first
abbrev pub open_places : Nodes → List Open → List ℕ
open_places nodes [] = []
open_places nodes (newest ∷ older) = open_places nodes older ++ (length (flat_row nodes ++ flat_spine older) ∷ [])

-- what the parts from one place on tell: those before the first container without an end, and these containers
pub record Built : Type 0 where
  pub row : List Node
  pub spine : List Open

-- a row with these nodes after it
abbrev pub row_onto : Nodes → List Node → Nodes
row_onto nodes [] = nodes
row_onto nodes (node ∷ rest) = row_onto (nodes and node) rest

-- the nodes at the front that n parts tell, and the nodes after them
abbrev pub front_of : ℕ → List Node → List Node
front_of n [] = []
front_of n (node ∷ rest) =
    if nat_lt n (length (flat_node node)) then [] else node ∷ front_of (n - length (flat_node node)) rest

-- the nodes after those that n parts tell
abbrev pub after_parts : ℕ → List Node → List Node
after_parts n [] = []
after_parts n (node ∷ rest) =
    if nat_lt n (length (flat_node node)) then node ∷ rest else after_parts (n - length (flat_node node)) rest

-- one part more at the front
abbrev pub with_holder : Bool → Call → ℕ → Built → Built
with_holder true begin holds b = record { row = []; spine = b.spine ++ (record { begin = begin; nodes = row_onto none b.row } ∷ []) }
with_holder false begin holds b = record { row = Container begin (row_onto none (front_of holds b.row)) ∷ after_parts holds b.row; spine = b.spine }

-- the same of any part
abbrev pub with_part : Bool → FlatKind → ℕ → Built → Built
with_part is_open (One call) holds b = record { row = Single call ∷ b.row; spine = b.spine }
with_part is_open (Words held) holds b = record { row = Text held ∷ b.row; spine = b.spine }
with_part is_open (Bytes held) holds b = record { row = Binary held ∷ b.row; spine = b.spine }
with_part is_open (Holder begin) holds b = with_holder is_open begin holds b

-- whether the next container without an end stands at place i, and the places after it
abbrev pub is_open_at : ℕ → List ℕ → Bool
is_open_at i [] = false
is_open_at i (place ∷ places) = place == i

-- the places after the one at i, if it is the next
abbrev pub beyond : ℕ → List ℕ → List ℕ
beyond i [] = []
beyond i (place ∷ places) = if place == i then places else place ∷ places

-- what the parts from place i on tell
unfoldable pub built : ℕ → List ℕ → List FlatPart → Built
built i places [] = record { row = []; spine = [] }
built i places (p ∷ parts) = with_part (is_open_at i places) p.kind p.holds (built (i + 1) (beyond i places) parts)

-- the forest that parts tell, with the places of the containers without an end and the flag
unfoldable pub forest_of : List FlatPart → List ℕ → Bool → Forest
forest_of parts places within =
    let b = built 0 places parts in record { nodes = row_onto none b.row; spine = b.spine; in_fragments = within }

-- what is kept of a forest: its parts in a flat list, the places of the containers without an end, and whether a text or a
-- binary has begun and none has ended since
pub record FlatForest : Type 0 where
  pub parts : List FlatPart
  pub places : List ℕ
  pub in_fragments : Bool

-- the forest that is kept so
abbrev pub forest_in : FlatForest → Forest
forest_in kept = forest_of kept.parts kept.places kept.in_fragments
