-- The trees that values of the standard library spell.
use Rattle.std.specs.Prelude.{◌≡◌, ℕ, ◌+◌, false, List, [], ◌∷◌, ◌++◌, Option, Some, None}
use Rattle.sval_label.specs.Calls.{Head, Slot, Name, Call}
use Rattle.sval_core.specs.Trees.{Tree, Binary, Standalone, Tagged, Container, Parts, none, part, plain_name, AreGood}
use Rattle.sval_core.specs.Spells.{SayParts, Spells, plain}
use Rattle.sval_core.specs.Law.{Emission}
use Rattle.sval_core.specs.Names.{unit_tag, constant_size_tag, tag_alone, no_name, offset, some_name, none_name}

-- the emission is a whole value: its calls spell the tree, and it doesn't refuse
pub record Tells (e : Emission) (tree : Tree) : Type 0 where
  pub willing : e.refuses ≡ false
  pub spells : Spells e.calls tree

-- the emission is the parts of a container, one after another
pub record TellsParts (e : Emission) (parts : Parts) : Type 0 where
  pub willing : e.refuses ≡ false
  pub good : AreGood parts
  pub say : (rest : List Call) → SayParts parts (plain e.calls ++ rest) rest

-- a tagged value of this name
abbrev pub tagged_tree : Name → Tree → Tree
tagged_tree name tree = Tagged (plain_name name) tree

-- what has a size that its type fixes
abbrev pub constant_size_tree : Tree → Tree
constant_size_tree tree = Tagged (tag_alone constant_size_tag) tree

-- `()`: its tag by itself
abbrev pub unit_tree : Tree
unit_tree = Standalone (tag_alone unit_tag)

-- a binary whose size its type fixes
abbrev pub binary_array_tree : List ℕ → Tree
binary_array_tree bytes = constant_size_tree (Binary bytes)

-- the items of a sequence, in order
abbrev pub item_parts : {T : Type 0} → (T → Tree) → List T → Parts
item_parts tree [] = none
item_parts tree (x ∷ xs) = part Slot.Item (tree x) (item_parts tree xs)

-- a sequence of items
abbrev pub seq_tree : {T : Type 0} → (T → Tree) → List T → Tree
seq_tree tree xs = Container Head.Seq (item_parts tree xs)

-- an array: a sequence whose size its type fixes
abbrev pub array_tree : {T : Type 0} → (T → Tree) → List T → Tree
array_tree tree xs = constant_size_tree (seq_tree tree xs)

-- the entries of a map, in order, each its key and then its value
abbrev pub entry_parts : {K V : Type 0} → (K → Tree) → (V → Tree) → List (K × V) → Parts
entry_parts key value [] = none
entry_parts key value (entry ∷ entries) = part Slot.Key (key entry.0) (part Slot.Value (value entry.1) (entry_parts key value entries))

-- a map of entries
abbrev pub map_tree : {K V : Type 0} → (K → Tree) → (V → Tree) → List (K × V) → Tree
map_tree key value entries = Container Head.Map (entry_parts key value entries)

-- an option: what it holds under the name of `Some`, or the name of `None` by itself
abbrev pub option_tree : {T : Type 0} → (T → Tree) → Option T → Tree
option_tree tree None = Standalone (plain_name none_name)
option_tree tree (Some x) = Tagged (plain_name some_name) (tree x)

-- the parts of a tuple, from this place on, each with its index
abbrev pub place_parts : ℕ → List Tree → Parts
place_parts i [] = none
place_parts i (tree ∷ trees) = part (Slot.Place None (offset i)) tree (place_parts (i + 1) trees)

-- a tuple without a name, whose parts are counted from 0
abbrev pub tuple_tree : List Tree → Tree
tuple_tree trees = Container (Head.Tuple no_name) (place_parts 0 trees)
