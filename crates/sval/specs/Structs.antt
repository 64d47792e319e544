-- What structs and enums of a user's own emit, as sval's derive has them.
--
-- The words for a whole struct or variant are `unfoldable`. So a goal about one has the word and not its calls, and the tactics close it
-- where `stream` is a `match` over variants that hold something.
use Rattle.std.specs.Prelude.{ℕ, ◌+◌, true, List, [], ◌∷◌, length, None, Some}
use Rattle.sval_label.specs.Calls.{Label, Name, Head, Slot}
use Rattle.sval_core.specs.Law.{Emission, silent, then_emits}
use Rattle.sval_core.specs.Names.{ident, offset, no_name}
use Rattle.sval_core.specs.Values.{part_emission, container_emission, enum_emission, tagged_emission, tag_emission, places_emission}

-- a field: its name, and what its value emits
pub record Field : Type 0 where
  pub name : List ℕ
  pub value : Emission

-- ---- records: fields under their names

-- the label of a field that need not be an identifier
abbrev pub field_label : List ℕ → Label
field_label name = record { text = name; tag = None; is_static = true }

-- the fields, one after another
abbrev pub fields_emission : List Field → Emission
fields_emission [] = silent
fields_emission (f ∷ fs) = then_emits (part_emission (Slot.Field None (field_label f.name)) f.value) (fields_emission fs)

-- a record without a name, which tells how many fields it has
unfoldable pub record_emission : List Field → Emission
record_emission fs = container_emission (Head.Record no_name) (length fs) (fields_emission fs)

-- ---- structs: record tuples, whose fields stand under their identifiers and their places

-- the fields from this place on, one after another
abbrev pub placed_emission : ℕ → List Field → Emission
placed_emission i [] = silent
placed_emission i (f ∷ fs) = then_emits (part_emission (Slot.FieldPlace None (ident f.name) (offset i)) f.value) (placed_emission (i + 1) fs)

-- the name of a type
abbrev pub type_name : List ℕ → Name
type_name name = record { tag = None; label = Some (ident name); index = None }

-- a struct of this name
unfoldable pub struct_emission : List ℕ → List Field → Emission
struct_emission name fs = container_emission (Head.RecordTuple (type_name name)) (length fs) (placed_emission 0 fs)

-- ---- structs whose fields have no names

-- a struct of this name that holds nothing: its name as a tag
unfoldable pub unit_struct_emission : List ℕ → Emission
unit_struct_emission name = tag_emission (type_name name)

-- a struct of this name that holds one value, which is tagged with the name
unfoldable pub newtype_emission : List ℕ → Emission → Emission
newtype_emission name value = tagged_emission (type_name name) value

-- a tuple struct of this name: a tuple, in which each field has its index
unfoldable pub tuple_struct_emission : List ℕ → List Emission → Emission
tuple_struct_emission name es = container_emission (Head.Tuple (type_name name)) (length es) (places_emission 0 es)

-- ---- enums: a variant has its identifier and its place among the variants

-- the name of a variant
abbrev pub variant_name : List ℕ → ℕ → Name
variant_name name place = record { tag = None; label = Some (ident name); index = Some (offset place) }

-- a variant that holds nothing
unfoldable pub unit_variant_emission : (type variant : List ℕ) → ℕ → Emission
unit_variant_emission type variant place = enum_emission (type_name type) (tag_emission (variant_name variant place))

-- a variant that holds one value
unfoldable pub value_variant_emission : (type variant : List ℕ) → ℕ → Emission → Emission
value_variant_emission type variant place value = enum_emission (type_name type) (tagged_emission (variant_name variant place) value)

-- a variant that holds fields
unfoldable pub struct_variant_emission : (type variant : List ℕ) → ℕ → List Field → Emission
struct_variant_emission type variant place fs =
    enum_emission (type_name type) (container_emission (Head.RecordTuple (variant_name variant place)) (length fs) (placed_emission 0 fs))

-- a variant whose fields have no names: a tuple, in which each field has its index
unfoldable pub tuple_variant_emission : (type variant : List ℕ) → ℕ → List Emission → Emission
tuple_variant_emission type variant place es =
    enum_emission (type_name type) (container_emission (Head.Tuple (variant_name variant place)) (length es) (places_emission 0 es))
