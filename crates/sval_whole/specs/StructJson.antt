-- The JSON of structs and enums of a user's own.
use Rattle.std.specs.Prelude.{◌≡◌, ℕ, List, [], ◌∷◌, Result, Ok}
use Rattle.sval_core.specs.Trees.{Tree}
use Rattle.sval_json.specs.Json.{Items, Pairs, raw_key, escaped_key, text, array, object, no_item, item, no_pair, pair}
use Rattle.sval_json.specs.Number.{Refusal}
use Rattle.sval_json.specs.Shape.{json_in, on_ok, map_ok, with_handle}
use Rattle.sval_json.specs.declared.style.Variants.{Variants}
use Rattle.sval.specs.StructTrees.{NamedTree, unnamed_record_tree, struct_tree, unit_struct_tree, newtype_tree, tuple_struct_tree, unit_variant_tree, value_variant_tree, tuple_variant_tree, struct_variant_tree}

-- fields as the pairs of an object in order, each under its name, or the first refusal
abbrev pub named_json : Variants → List NamedTree → Result Pairs Refusal
named_json style [] = Ok no_pair
named_json style (t ∷ ts) = on_ok (json_in style t.tree) (λ json. map_ok (pair (raw_key t.name) json) (named_json style ts))

-- the same where the names are escaped
abbrev pub escaped_json : Variants → List NamedTree → Result Pairs Refusal
escaped_json style [] = Ok no_pair
escaped_json style (t ∷ ts) = on_ok (json_in style t.tree) (λ json. map_ok (pair (escaped_key t.name) json) (escaped_json style ts))

-- values as the items of an array in order, or the first refusal
abbrev pub placed_json : Variants → List Tree → Result Items Refusal
placed_json style [] = Ok no_item
placed_json style (t ∷ ts) = on_ok (json_in style t) (λ json. map_ok (item json) (placed_json style ts))

-- the JSON of a record without a name is the object of its fields
abbrev pub RecordsAreObjects : Type 0
RecordsAreObjects = (style : Variants) (ts : List NamedTree) → json_in style (unnamed_record_tree ts) ≡ map_ok object (escaped_json style ts)

-- that of a struct is the object of its fields
abbrev pub StructsAreObjects : Type 0
StructsAreObjects = (style : Variants) (name : List ℕ) (ts : List NamedTree) → json_in style (struct_tree name ts) ≡ map_ok object (named_json style ts)

-- that of a struct that holds nothing is its name
abbrev pub UnitStructsAreTheirName : Type 0
UnitStructsAreTheirName = (style : Variants) (name : List ℕ) → json_in style (unit_struct_tree name) ≡ Ok (text name)

-- that of a struct that holds one value is the value's
abbrev pub NewtypesAreTheirValue : Type 0
NewtypesAreTheirValue = (style : Variants) (name : List ℕ) (t : Tree) → json_in style (newtype_tree name t) ≡ json_in style t

-- that of a tuple struct is the array of its fields
abbrev pub TupleStructsAreArrays : Type 0
TupleStructsAreArrays = (style : Variants) (name : List ℕ) (ts : List Tree) → json_in style (tuple_struct_tree name ts) ≡ map_ok array (placed_json style ts)

-- that of a variant that holds nothing is its name
abbrev pub UnitVariantsAreTheirName : Type 0
UnitVariantsAreTheirName = (style : Variants) (type variant : List ℕ) (place : ℕ) → json_in style (unit_variant_tree type variant place) ≡ Ok (text variant)

-- that of a variant that holds one value is the value's, with the variant's name as the style has it
abbrev pub ValueVariantsAreNamed : Type 0
ValueVariantsAreNamed = (style : Variants) (type variant : List ℕ) (place : ℕ) (t : Tree)
    → json_in style (value_variant_tree type variant place t) ≡ map_ok (with_handle style variant) (json_in style t)

-- that of a tuple variant is the array of its fields, with the variant's name
abbrev pub TupleVariantsAreNamed : Type 0
TupleVariantsAreNamed = (style : Variants) (type variant : List ℕ) (place : ℕ) (ts : List Tree)
    → json_in style (tuple_variant_tree type variant place ts) ≡ map_ok (λ items. with_handle style variant (array items)) (placed_json style ts)

-- that of a variant that holds fields is the object of these, with the variant's name
abbrev pub StructVariantsAreNamed : Type 0
StructVariantsAreNamed = (style : Variants) (type variant : List ℕ) (place : ℕ) (ts : List NamedTree)
    → json_in style (struct_variant_tree type variant place ts) ≡ map_ok (λ fields. with_handle style variant (object fields)) (named_json style ts)
