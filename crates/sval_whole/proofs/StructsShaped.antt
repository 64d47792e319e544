-- The JSON of structs and enums of a user's own.
use Rattle.std.proofs.Common.{◌≡◌, ℕ, ◌+◌, List, [], ◌∷◌, Result, Ok, Err, ap, ◌∙◌, refl}
use Rattle.sval_core.specs.Trees.{Tree}
use Rattle.sval_core.specs.ValueTrees.{place_parts}
use Rattle.sval_json.specs.Json.{raw_key, escaped_key, array, object, item, pair}
use Rattle.sval_json.specs.Number.{Refusal}
use Rattle.sval_json.specs.Shape.{json_in, on_ok, map_ok, with_handle, items, pairs}
use Rattle.sval_json.specs.declared.style.Variants.{Variants}
use Rattle.sval.specs.StructTrees.{NamedTree, named_parts, placed_parts}
use Rattle.sval_whole.specs.StructJson.{named_json, escaped_json, placed_json, RecordsAreObjects, StructsAreObjects, UnitStructsAreTheirName, NewtypesAreTheirValue, TupleStructsAreArrays, UnitVariantsAreTheirName, ValueVariantsAreNamed, TupleVariantsAreNamed, StructVariantsAreNamed}

-- a change that changes nothing
same_ok : {T : Type 0} (r : Result T Refusal) → map_ok (λ x. x) r ≡ r
same_ok (Ok x) = refl
same_ok (Err why) = refl

-- two changes, one after the other
both_ok : {T U V : Type 0} (f : T → U) (g : U → V) (r : Result T Refusal) → map_ok g (map_ok f r) ≡ map_ok (λ x. g (f x)) r
both_ok f g (Ok x) = refl
both_ok f g (Err why) = refl

-- the rest of the work may be replaced by what is the same
same_rest : {T U : Type 0} (r : Result T Refusal) (f g : T → Result U Refusal) → ((x : T) → f x ≡ g x) → on_ok r f ≡ on_ok r g
same_rest (Ok x) f g e = e x
same_rest (Err why) f g e = refl

named_pairs : (style : Variants) (ts : List NamedTree) → pairs style (named_parts ts) ≡ escaped_json style ts
named_pairs style [] = refl
named_pairs style (t ∷ ts) = same_rest (json_in style t.tree) _ _ (λ json. ap (map_ok (pair (escaped_key t.name) json)) (named_pairs style ts))

placed_pairs : (style : Variants) (i : ℕ) (ts : List NamedTree) → pairs style (placed_parts i ts) ≡ named_json style ts
placed_pairs style i [] = refl
placed_pairs style i (t ∷ ts) = same_rest (json_in style t.tree) _ _ (λ json. ap (map_ok (pair (raw_key t.name) json)) (placed_pairs style (i + 1) ts))

placed_items : (style : Variants) (i : ℕ) (ts : List Tree) → items style (place_parts i ts) ≡ placed_json style ts
placed_items style i [] = refl
placed_items style i (t ∷ ts) = same_rest (json_in style t) _ _ (λ json. ap (map_ok (item json)) (placed_items style (i + 1) ts))

pub records : RecordsAreObjects
records style ts = ap (map_ok object) (named_pairs style ts)

pub structs : StructsAreObjects
structs style name ts = ap (map_ok object) (placed_pairs style 0 ts)

pub unit_structs : UnitStructsAreTheirName
unit_structs style name = refl

pub newtypes : NewtypesAreTheirValue
newtypes style name t = same_ok (json_in style t)

pub tuple_structs : TupleStructsAreArrays
tuple_structs style name ts = ap (map_ok array) (placed_items style 0 ts)

pub unit_variants : UnitVariantsAreTheirName
unit_variants style type variant place = refl

pub value_variants : ValueVariantsAreNamed
value_variants style type variant place t = same_ok (map_ok (with_handle style variant) (json_in style t))

pub tuple_variants : TupleVariantsAreNamed
tuple_variants style type variant place ts =
    same_ok (map_ok (λ places. with_handle style variant (array places)) (items style (place_parts 0 ts)))
    ∙ ap (map_ok (λ places. with_handle style variant (array places))) (placed_items style 0 ts)

pub struct_variants : StructVariantsAreNamed
struct_variants style type variant place ts =
    same_ok (map_ok (λ fields. with_handle style variant (object fields)) (pairs style (placed_parts 0 ts)))
    ∙ ap (map_ok (λ fields. with_handle style variant (object fields))) (placed_pairs style 0 ts)
