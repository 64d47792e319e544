-- The trees that structs and enums of a user's own spell.
use Rattle.std.specs.Prelude.{◌≡◌, ⊤, ℕ, ◌+◌, List, [], ◌∷◌, None}
use Rattle.sval_label.specs.Calls.{Head, Slot}
use Rattle.sval_core.specs.Law.{Emission}
use Rattle.sval_core.specs.Names.{ident, offset, no_name}
use Rattle.sval_core.specs.Trees.{Tree, Standalone, Enum, Container, Parts, none, part, plain_name, plain_head, plain_slot}
use Rattle.sval_core.specs.ValueTrees.{Tells, tagged_tree, place_parts}
use Rattle.sval_core.specs.OneValue.{EachIsOneValue}
use Rattle.sval_core.specs.ValueLaws.{TellEach}
use Rattle.sval.specs.Structs.{Field, field_label, type_name, variant_name, record_emission, struct_emission, unit_struct_emission, newtype_emission, tuple_struct_emission, unit_variant_emission, value_variant_emission, tuple_variant_emission, struct_variant_emission}

-- a field of a tree: its name, and the tree of its value
pub record NamedTree : Type 0 where
  pub name : List ℕ
  pub tree : Tree

-- the fields of a record, in order
abbrev pub named_parts : List NamedTree → Parts
named_parts [] = none
named_parts (t ∷ ts) = part (plain_slot (Slot.Field None (field_label t.name))) t.tree (named_parts ts)

-- a record without a name
abbrev pub unnamed_record_tree : List NamedTree → Tree
unnamed_record_tree ts = Container (Head.Record no_name) (named_parts ts)

-- the fields from this place on, in order
abbrev pub placed_parts : ℕ → List NamedTree → Parts
placed_parts i [] = none
placed_parts i (t ∷ ts) = part (plain_slot (Slot.FieldPlace None (ident t.name) (offset i))) t.tree (placed_parts (i + 1) ts)

-- a struct of this name
abbrev pub struct_tree : List ℕ → List NamedTree → Tree
struct_tree name ts = Container (plain_head (Head.RecordTuple (type_name name))) (placed_parts 0 ts)

-- a struct of this name that holds nothing
abbrev pub unit_struct_tree : List ℕ → Tree
unit_struct_tree name = Standalone (plain_name (type_name name))

-- a struct of this name that holds one value
abbrev pub newtype_tree : List ℕ → Tree → Tree
newtype_tree name tree = tagged_tree (type_name name) tree

-- a tuple struct of this name
abbrev pub tuple_struct_tree : List ℕ → List Tree → Tree
tuple_struct_tree name trees = Container (plain_head (Head.Tuple (type_name name))) (place_parts 0 trees)

-- a variant that holds nothing
abbrev pub unit_variant_tree : (type variant : List ℕ) → ℕ → Tree
unit_variant_tree type variant place = Enum (plain_name (type_name type)) (Standalone (plain_name (variant_name variant place)))

-- a variant that holds one value
abbrev pub value_variant_tree : (type variant : List ℕ) → ℕ → Tree → Tree
value_variant_tree type variant place tree = Enum (plain_name (type_name type)) (tagged_tree (variant_name variant place) tree)

-- a tuple variant
abbrev pub tuple_variant_tree : (type variant : List ℕ) → ℕ → List Tree → Tree
tuple_variant_tree type variant place trees =
    Enum (plain_name (type_name type)) (Container (plain_head (Head.Tuple (variant_name variant place))) (place_parts 0 trees))

-- a variant that holds fields
abbrev pub struct_variant_tree : (type variant : List ℕ) → ℕ → List NamedTree → Tree
struct_variant_tree type variant place ts =
    Enum (plain_name (type_name type)) (Container (plain_head (Head.RecordTuple (variant_name variant place))) (placed_parts 0 ts))

-- the fields have the names of these, and the value of each tells its tree
abbrev pub FieldsTell : List Field → List NamedTree → Type 0
FieldsTell [] [] = ⊤
FieldsTell (f ∷ fs) (t ∷ ts) = ((f.name ≡ t.name) × Tells f.value t.tree) × FieldsTell fs ts
FieldsTell _ _ = ⊥

-- the value of each field is one whole value
abbrev pub HoldWholeValues : List Field → Type 0
HoldWholeValues fs = EachIsOneValue (λ field. field.value) fs

-- where the values of the fields are whole values, a record of them is one
abbrev pub RecordsTell : Type 0
RecordsTell = (fs : List Field) (ts : List NamedTree) → FieldsTell fs ts → Tells (record_emission fs) (unnamed_record_tree ts)

-- where the values of the fields are whole values, a struct of them is one
abbrev pub StructsTell : Type 0
StructsTell = (name : List ℕ) (fs : List Field) (ts : List NamedTree) → FieldsTell fs ts → Tells (struct_emission name fs) (struct_tree name ts)

-- a struct that holds nothing is a whole value
abbrev pub UnitStructsTell : Type 0
UnitStructsTell = (name : List ℕ) → Tells (unit_struct_emission name) (unit_struct_tree name)

-- a struct that holds one value is one where that value is
abbrev pub NewtypesTell : Type 0
NewtypesTell = (name : List ℕ) (e : Emission) (t : Tree) → Tells e t → Tells (newtype_emission name e) (newtype_tree name t)

-- a tuple struct is one where the values of its fields are
abbrev pub TupleStructsTell : Type 0
TupleStructsTell = (name : List ℕ) (es : List Emission) (ts : List Tree) → TellEach es ts → Tells (tuple_struct_emission name es) (tuple_struct_tree name ts)

-- a variant that holds nothing is a whole value
abbrev pub UnitVariantsTell : Type 0
UnitVariantsTell = (type variant : List ℕ) (place : ℕ) → Tells (unit_variant_emission type variant place) (unit_variant_tree type variant place)

-- a variant that holds one value is one where that value is
abbrev pub ValueVariantsTell : Type 0
ValueVariantsTell = (type variant : List ℕ) (place : ℕ) (e : Emission) (t : Tree) → Tells e t
    → Tells (value_variant_emission type variant place e) (value_variant_tree type variant place t)

-- a tuple variant is one where the values of its fields are
abbrev pub TupleVariantsTell : Type 0
TupleVariantsTell = (type variant : List ℕ) (place : ℕ) (es : List Emission) (ts : List Tree) → TellEach es ts
    → Tells (tuple_variant_emission type variant place es) (tuple_variant_tree type variant place ts)

-- a variant that holds fields is one where the values of these are
abbrev pub StructVariantsTell : Type 0
StructVariantsTell = (type variant : List ℕ) (place : ℕ) (fs : List Field) (ts : List NamedTree) → FieldsTell fs ts
    → Tells (struct_variant_emission type variant place fs) (struct_variant_tree type variant place ts)
