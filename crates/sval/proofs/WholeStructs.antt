-- Where the values of fields are whole values, a struct of them is one.
use Rattle.std.specs.Prelude.{ℕ, List, [], ◌∷◌, refl}
use Rattle.sval_core.specs.Law.{Emission}
use Rattle.sval_core.specs.OneValue.{IsOneValue, EachIsOneValue}
use Rattle.sval_core.proofs.SurelyWhole.{whole_from_told, told_from_whole, trees_of_wholes}
use Rattle.sval.specs.Structs.{Field, record_emission, struct_emission, newtype_emission, tuple_struct_emission, unit_variant_emission, value_variant_emission, struct_variant_emission, tuple_variant_emission}
use Rattle.sval.specs.StructTrees.{NamedTree, FieldsTell, HoldWholeValues}
use Rattle.sval.proofs.ToldStructs.{records_tell, structs_tell, newtypes_tell, tuple_structs_tell, unit_variants_tell, value_variants_tell, tuple_variants_tell, struct_variants_tell}

trees_of_fields : (fs : List Field) → HoldWholeValues fs → (ts : List NamedTree) × FieldsTell fs ts
trees_of_fields [] all = ([], tt)
trees_of_fields (f ∷ fs) all =
    let more = trees_of_fields fs all.1 in
    let first : NamedTree = record { name = f.name; tree = all.0.spells.0 } in
    (first ∷ more.0, ((refl, told_from_whole all.0), more.1))

pub record_is_whole : (fs : List Field) → HoldWholeValues fs → IsOneValue (record_emission fs)
record_is_whole fs all = let trees = trees_of_fields fs all in whole_from_told (records_tell fs trees.0 trees.1)

pub struct_is_whole : (name : List ℕ) (fs : List Field) → HoldWholeValues fs → IsOneValue (struct_emission name fs)
struct_is_whole name fs all = let trees = trees_of_fields fs all in whole_from_told (structs_tell name fs trees.0 trees.1)

pub newtype_is_whole : (name : List ℕ) (e : Emission) → IsOneValue e → IsOneValue (newtype_emission name e)
newtype_is_whole name e one = whole_from_told (newtypes_tell name e one.spells.0 (told_from_whole one))

pub tuple_struct_is_whole : (name : List ℕ) (es : List Emission) → EachIsOneValue (λ e. e) es → IsOneValue (tuple_struct_emission name es)
tuple_struct_is_whole name es all = let trees = trees_of_wholes es all in whole_from_told (tuple_structs_tell name es trees.0 trees.1)

pub unit_variant_is_whole : (type variant : List ℕ) (place : ℕ) → IsOneValue (unit_variant_emission type variant place)
unit_variant_is_whole type variant place = whole_from_told (unit_variants_tell type variant place)

pub value_variant_is_whole : (type variant : List ℕ) (place : ℕ) (e : Emission) → IsOneValue e → IsOneValue (value_variant_emission type variant place e)
value_variant_is_whole type variant place e one = whole_from_told (value_variants_tell type variant place e one.spells.0 (told_from_whole one))

pub tuple_variant_is_whole : (type variant : List ℕ) (place : ℕ) (es : List Emission) → EachIsOneValue (λ e. e) es
    → IsOneValue (tuple_variant_emission type variant place es)
tuple_variant_is_whole type variant place es all =
    let trees = trees_of_wholes es all in whole_from_told (tuple_variants_tell type variant place es trees.0 trees.1)

pub struct_variant_is_whole : (type variant : List ℕ) (place : ℕ) (fs : List Field) → HoldWholeValues fs
    → IsOneValue (struct_variant_emission type variant place fs)
struct_variant_is_whole type variant place fs all =
    let trees = trees_of_fields fs all in whole_from_told (struct_variants_tell type variant place fs trees.0 trees.1)
