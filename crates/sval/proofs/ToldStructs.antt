-- Where the values of fields tell trees, a struct of them tells the tree of these.
use Rattle.std.specs.Prelude.{ℕ, ◌+◌, List, [], ◌∷◌, length, None, refl}
use Rattle.std.proofs.Common.{arith, subst}
use Rattle.sval_label.specs.Calls.{Head, Slot, Name}
use Rattle.sval_core.specs.Names.{ident, offset, no_name}
use Rattle.sval_core.specs.Trees as tree
use Rattle.sval_core.specs.Trees.{Container, FieldPlace, part, plain_slot, plain_head}
use Rattle.sval_core.specs.Values.{container_emission, tag_emission, tagged_emission, places_emission}
use Rattle.sval_core.specs.ValueTrees.{Tells, TellsParts}
use Rattle.sval_core.proofs.ToldTrees.{TellsEntries, entries_tell_container, places_container_tells, part_tells, no_part_tells, tagged_tells, enum_tells, enums_tell}
use Rattle.sval.specs.Structs.{Field, field_label, type_name, variant_name, fields_emission, placed_emission, record_emission, struct_emission, unit_struct_emission, newtype_emission, tuple_struct_emission, unit_variant_emission, value_variant_emission, struct_variant_emission, tuple_variant_emission}
use Rattle.sval.specs.StructTrees.{NamedTree, named_parts, placed_parts, FieldsTell, RecordsTell, StructsTell, UnitStructsTell, NewtypesTell, TupleStructsTell, UnitVariantsTell, ValueVariantsTell, TupleVariantsTell, StructVariantsTell}

-- ---- fields under their names

named_tell : (fs : List Field) (ts : List NamedTree) → FieldsTell fs ts → TellsEntries tree.Field (fields_emission fs) (named_parts ts) (length fs)
named_tell [] [] each = record { tells = no_part_tells; in_order = tt; counted = refl }
named_tell [] (t ∷ ts) each = absurd each
named_tell (f ∷ fs) [] each = absurd each
named_tell (f ∷ fs) (t ∷ ts) each =
    let more = named_tell fs ts each.1 in
    record {
      tells = subst (λ n. TellsParts (fields_emission (f ∷ fs)) (part (plain_slot (Slot.Field None (field_label n))) t.tree (named_parts ts))) each.0.0
          (part_tells (Slot.Field None (field_label f.name)) f.value (fields_emission fs) t.tree (named_parts ts) each.0.1 more.tells);
      in_order = (refl, more.in_order);
      counted = omega (arith, more.counted);
    }

pub records_tell : RecordsTell
unfolding record_emission
records_tell fs ts each = entries_tell_container (Head.Record no_name) (named_tell fs ts each)

-- ---- fields under their names and places

placed_tell : (i : ℕ) (fs : List Field) (ts : List NamedTree) → FieldsTell fs ts → TellsEntries FieldPlace (placed_emission i fs) (placed_parts i ts) (length fs)
placed_tell i [] [] each = record { tells = no_part_tells; in_order = tt; counted = refl }
placed_tell i [] (t ∷ ts) each = absurd each
placed_tell i (f ∷ fs) [] each = absurd each
placed_tell i (f ∷ fs) (t ∷ ts) each =
    let more = placed_tell (i + 1) fs ts each.1 in
    record {
      tells = subst (λ n. TellsParts (placed_emission i (f ∷ fs)) (part (plain_slot (Slot.FieldPlace None (ident n) (offset i))) t.tree (placed_parts (i + 1) ts))) each.0.0
          (part_tells (Slot.FieldPlace None (ident f.name) (offset i)) f.value (placed_emission (i + 1) fs) t.tree (placed_parts (i + 1) ts) each.0.1 more.tells);
      in_order = (refl, more.in_order);
      counted = omega (arith, more.counted);
    }

named_tells : (name : Name) (fs : List Field) (ts : List NamedTree) → FieldsTell fs ts
    → Tells (container_emission (Head.RecordTuple name) (length fs) (placed_emission 0 fs)) (Container (plain_head (Head.RecordTuple name)) (placed_parts 0 ts))
named_tells name fs ts each = entries_tell_container (Head.RecordTuple name) (placed_tell 0 fs ts each)

pub structs_tell : StructsTell
unfolding struct_emission
structs_tell name fs ts each = named_tells (type_name name) fs ts each

-- ---- fields under their places

pub tuple_structs_tell : TupleStructsTell
unfolding tuple_struct_emission
tuple_structs_tell name es ts each = places_container_tells (type_name name) es ts each

-- ---- structs that hold nothing or one value

pub unit_structs_tell : UnitStructsTell
unfolding unit_struct_emission
unit_structs_tell name = enums_tell.tag (type_name name)

pub newtypes_tell : NewtypesTell
unfolding newtype_emission
newtypes_tell name e t tells = tagged_tells (type_name name) e t tt tells

-- ---- variants

pub unit_variants_tell : UnitVariantsTell
unfolding unit_variant_emission
unit_variants_tell type variant place =
    enum_tells (type_name type) (tag_emission (variant_name variant place)) _ tt (enums_tell.tag (variant_name variant place))

pub value_variants_tell : ValueVariantsTell
unfolding value_variant_emission
value_variants_tell type variant place e t tells =
    enum_tells (type_name type) (tagged_emission (variant_name variant place) e) _ tt (tagged_tells (variant_name variant place) e t tt tells)

pub tuple_variants_tell : TupleVariantsTell
unfolding tuple_variant_emission
tuple_variants_tell type variant place es ts each =
    enum_tells (type_name type) (container_emission (Head.Tuple (variant_name variant place)) (length es) (places_emission 0 es)) _ tt
    (places_container_tells (variant_name variant place) es ts each)

pub struct_variants_tell : StructVariantsTell
unfolding struct_variant_emission
struct_variants_tell type variant place fs ts each =
    enum_tells (type_name type) (container_emission (Head.RecordTuple (variant_name variant place)) (length fs) (placed_emission 0 fs)) _ tt
    (named_tells (variant_name variant place) fs ts each)
