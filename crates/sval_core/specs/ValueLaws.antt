-- The laws of emissions that join, and of the trees that they spell, as facts.
use Rattle.std.specs.Prelude.{◌≡◌, ℕ, ℤ, Bool, List, [], ◌∷◌, ◌++◌, Option, Some, ⊤}
use Rattle.std.specs.List.{AllByRecursion}
use Rattle.sval_label.specs.Calls.{Name, IntType, Head, Slot}
use Rattle.sval_core.specs.Trees as tree
use Rattle.sval_core.specs.Trees.{Tree, Parts, text_kind, MayHold, IsVariant, plain_name, plain_head, plain_slot, first_kind, AreInOrder}
use Rattle.sval_core.specs.Spells.{entries}
use Rattle.sval_core.specs.Law.{Emission, silent, then_emits}
use Rattle.sval_core.specs.Values.{part_emission, tagged_emission, tag_emission, enum_emission, container_emission, parts_emission, null_emission, truth_emission, int_emission, unit_emission, one_text_emission, binary_emission, binary_array_emission, seq_emission, array_emission, map_emission, option_emission, tuple_emission}
use Rattle.sval_core.specs.ValueTrees.{Tells, TellsParts, tagged_tree, unit_tree, binary_array_tree, seq_tree, array_tree, map_tree, option_tree, tuple_tree}

-- ---- joining

-- it makes no difference which two of three emissions are joined first
abbrev pub EmissionsAssociate : Type 0
EmissionsAssociate = (a b c : Emission) → then_emits (then_emits a b) c ≡ then_emits a (then_emits b c)

-- joining what makes no call and doesn't refuse changes nothing
abbrev pub SilentIsUnit : Type 0
SilentIsUnit = (e : Emission) → (then_emits silent e ≡ e) × (then_emits e silent ≡ e)

-- the parts of a list join at any place
abbrev pub PartsJoin : Type 0 → Type 0
PartsJoin T = (emission : T → Emission) (first second : List T) → parts_emission emission (first ++ second) ≡ then_emits (parts_emission emission first) (parts_emission emission second)

-- ---- values that are built of no others

-- each of these values is whole, and spells its tree
pub record PlainValuesTell : Type 0 where
  pub null : Tells null_emission tree.Null
  pub truth : (b : Bool) → Tells (truth_emission b) (tree.Truth b)
  pub int : (type : IntType) (n : ℤ) → Tells (int_emission type n) (tree.Int type n)
  pub unit : Tells unit_emission unit_tree
  pub text : (borrowed : Bool) (text : List ℕ) → Tells (one_text_emission borrowed text) (tree.Text text)
  pub binary : (bytes : List ℕ) → Tells (binary_emission bytes) (tree.Binary bytes)
  pub binary_array : (bytes : List ℕ) → Tells (binary_array_emission bytes) (binary_array_tree bytes)

-- ---- values that are built of others

-- under a tag that says how text is meant only a text may stand
abbrev pub TaggedTells : Type 0
TaggedTells = (name : Name) (e : Emission) (t : Tree) → MayHold (text_kind name.tag) t → Tells e t → Tells (tagged_emission name e) (tagged_tree name t)

-- a tag by itself, an enum of one variant, and an enum that holds none
pub record EnumsTell : Type 0 where
  pub tag : (name : Name) → Tells (tag_emission name) (tree.Standalone (plain_name name))
  pub of_variant : (name : Name) (e : Emission) (t : Tree) → IsVariant t → Tells e t → Tells (enum_emission name e) (tree.Enum (plain_name name) t)
  pub empty : (name : Name) → Tells (enum_emission name silent) (tree.EmptyEnum (plain_name name))

-- what makes no call is no part
abbrev pub NoPartTells : Type 0
NoPartTells = TellsParts silent tree.none

-- a whole value in a part, in front of other parts, is one part more
abbrev pub PartTells : Type 0
PartTells = (slot : Slot) (e more : Emission) (t : Tree) (parts : Parts) → Tells e t → TellsParts more parts
    → TellsParts (then_emits (part_emission slot e) more) (tree.part (plain_slot slot) t parts)

-- a container whose parts stand in its order, and are as many entries as it tells
abbrev pub ContainerTells : Type 0
ContainerTells = (head : Head) (size : ℕ) (e : Emission) (parts : Parts) → TellsParts e parts → AreInOrder (first_kind head) parts → entries parts ≡ size
    → Tells (container_emission head size e) (tree.Container (plain_head head) parts)

-- where each item is a whole value, the sequence of them is
abbrev pub SequencesTell : Type 0 → Type 0
SequencesTell T = (emission : T → Emission) (t : T → Tree) (xs : List T) → AllByRecursion (λ x. Tells (emission x) (t x)) xs
    → Tells (seq_emission emission xs) (seq_tree t xs) × Tells (array_emission emission xs) (array_tree t xs)

-- where what an option holds is a whole value, the option is
abbrev pub OptionsTell : Type 0 → Type 0
OptionsTell T = (emission : T → Emission) (t : T → Tree) (o : Option T) → ((x : T) → o ≡ Some x → Tells (emission x) (t x))
    → Tells (option_emission emission o) (option_tree t o)

-- where each key and each value is a whole value, the map of them is
abbrev pub MapsTell : Type 0 → Type 0 → Type 0
MapsTell K V = (key : K → Emission) (value : V → Emission) (k : K → Tree) (v : V → Tree) (all : List (K × V))
    → AllByRecursion (λ entry. Tells (key entry.0) (k entry.0) × Tells (value entry.1) (v entry.1)) all → Tells (map_emission key value all) (map_tree k v all)

-- each emission tells the tree at its place, and there are as many trees
abbrev pub TellEach : List Emission → List Tree → Type 0
TellEach [] [] = ⊤
TellEach (e ∷ es) (t ∷ ts) = Tells e t × TellEach es ts
TellEach _ _ = ⊥

-- where each part is a whole value, the tuple of them is
abbrev pub TuplesTell : Type 0
TuplesTell = (es : List Emission) (ts : List Tree) → TellEach es ts → Tells (tuple_emission es) (tuple_tree ts)
