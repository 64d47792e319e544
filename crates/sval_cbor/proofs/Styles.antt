-- A tree packs in each style or in none, and is refused for the same cause.
use Rattle.std.specs.Prelude.{◌≡◌, Bool, true, false, Result, Ok, Err, ⊤, refl}
use Rattle.std.proofs.Common.{sym, ap, ◌∙◌}
use Rattle.sval_label.specs.Calls.{Head, Slot}
use Rattle.sval_core.specs.Trees.{Tree, Null, Truth, Int, Text, Binary, Standalone, Tagged, EmptyEnum, Enum, Container, Parts, none, part, TextKind, Number, JsonValue, JsonText, JsonNumber, text_kind}
use Rattle.sval_json.specs.Json as shape
use Rattle.sval_json.specs.Json.{escaped_key, Json, item, pair}
use Rattle.sval_json.specs.Number.{normal}
use Rattle.sval_json.specs.declared.style.Variants.TheVariants.{Inside}
use Rattle.sval_json.specs.Shape.{wrap}
use Rattle.sval_cbor.specs.declared.style.Style.{Style}
use Rattle.sval_cbor.specs.Packs.{PackRefusal, on_packed, map_packed, number_pack, tagged_pack, pack_key, packs, packed_items, packed_pairs, pack_as}

-- neither is refused, or both are for the same cause
abbrev Alike : {T : Type 0} → Result T PackRefusal → Result T PackRefusal → Type 0
Alike (Ok x) (Ok y) = ⊤
Alike (Ok x) (Err why) = ⊥
Alike (Err why) (Ok y) = ⊥
Alike (Err why) (Err other) = why ≡ other

alike_self : {T : Type 0} (p : Result T PackRefusal) → Alike p p
alike_self (Ok x) = tt
alike_self (Err why) = refl

alike_map : {T U : Type 0} (f : T → U) (p q : Result T PackRefusal) → Alike p q → Alike (map_packed f p) (map_packed f q)
alike_map f (Ok x) (Ok y) h = tt
alike_map f (Ok x) (Err why) h = absurd h
alike_map f (Err why) (Ok y) h = absurd h
alike_map f (Err why) (Err other) h = h

alike_on : {T U : Type 0} (f g : T → Result U PackRefusal) (p q : Result T PackRefusal) → ((x y : T) → Alike (f x) (g y)) → Alike p q → Alike (on_packed p f) (on_packed q g)
alike_on f g (Ok x) (Ok y) h a = h x y
alike_on f g (Ok x) (Err why) h a = absurd a
alike_on f g (Err why) (Ok y) h a = absurd a
alike_on f g (Err why) (Err other) h a = a

alike_maps : {T U : Type 0} (f g : T → U) (p q : Result T PackRefusal) → Alike p q → Alike (map_packed f p) (map_packed g q)
alike_maps f g (Ok x) (Ok y) h = tt
alike_maps f g (Ok x) (Err why) h = absurd h
alike_maps f g (Err why) (Ok y) h = absurd h
alike_maps f g (Err why) (Err other) h = h

alike_tagged : (kind : TextKind) (tree : Tree) (p q : Result Json PackRefusal) → Alike p q → Alike (tagged_pack kind tree p) (tagged_pack kind tree q)
alike_tagged Number (Text bytes) p q h = alike_self (number_pack (normal bytes))
alike_tagged JsonText (Text bytes) p q h = refl
alike_tagged JsonValue (Text bytes) p q h = refl
alike_tagged JsonNumber (Text bytes) p q h = refl
alike_tagged kind tree p q h = h

module _ (one other : Style) where
  mutual
    alike : (tree : Tree) (variant : Bool) → Alike (packs one tree variant) (packs other tree variant)
    alike Null variant = tt
    alike (Truth b) variant = tt
    alike (Int type n) variant = tt
    alike (Text bytes) variant = tt
    alike (Binary bytes) variant = tt
    alike (Standalone name) variant = tt
    alike (Tagged name tree) variant =
        alike_map (wrap Inside variant name) (tagged_pack (text_kind name.tag) tree (packs one tree false)) (tagged_pack (text_kind name.tag) tree (packs other tree false))
        (alike_tagged (text_kind name.tag) tree (packs one tree false) (packs other tree false) (alike tree false))
    alike (EmptyEnum name) variant = tt
    alike (Enum name tree) variant = alike_map (wrap Inside variant name) (packs one tree true) (packs other tree true) (alike tree true)
    alike (Container Head.Seq parts) variant = alike_map shape.array (packed_items one parts) (packed_items other parts) (items_alike parts)
    alike (Container Head.Map parts) variant = alike_map shape.object (packed_pairs one parts) (packed_pairs other parts) (pairs_alike parts)
    alike (Container (Head.Record name) parts) variant = alike_map (λ fields. wrap Inside variant name (shape.object fields)) (packed_pairs one parts) (packed_pairs other parts) (pairs_alike parts)
    alike (Container (Head.Tuple name) parts) variant = alike_map (λ places. wrap Inside variant name (shape.array places)) (packed_items one parts) (packed_items other parts) (items_alike parts)
    alike (Container (Head.RecordTuple name) parts) variant = alike_map (λ fields. wrap Inside variant name (shape.object fields)) (packed_pairs one parts) (packed_pairs other parts) (pairs_alike parts)

    items_alike : (parts : Parts) → Alike (packed_items one parts) (packed_items other parts)
    items_alike none = tt
    items_alike (part slot tree parts) =
        alike_on (λ json. map_packed (item json) (packed_items one parts)) (λ json. map_packed (item json) (packed_items other parts)) (packs one tree false) (packs other tree false)
        (λ x y. alike_maps (item x) (item y) (packed_items one parts) (packed_items other parts) (items_alike parts)) (alike tree false)

    pairs_alike : (parts : Parts) → Alike (packed_pairs one parts) (packed_pairs other parts)
    pairs_alike (part Slot.Key name (part slot tree parts)) =
        alike_on (λ k. on_packed (packs one tree false) (λ json. map_packed (pair k json) (packed_pairs one parts))) (λ k. on_packed (packs other tree false) (λ json. map_packed (pair k json) (packed_pairs other parts)))
        (pack_key name) (pack_key name)
        (λ j k. alike_on (λ json. map_packed (pair j json) (packed_pairs one parts)) (λ json. map_packed (pair k json) (packed_pairs other parts)) (packs one tree false) (packs other tree false)
        (λ x y. alike_maps (pair j x) (pair k y) (packed_pairs one parts) (packed_pairs other parts) (pairs_alike parts)) (alike tree false))
        (alike_self (pack_key name))
    pairs_alike (part (Slot.Field tag label) tree parts) =
        alike_on (λ json. map_packed (pair (escaped_key label.text) json) (packed_pairs one parts)) (λ json. map_packed (pair (escaped_key label.text) json) (packed_pairs other parts)) (packs one tree false) (packs other tree false)
        (λ x y. alike_maps (pair (escaped_key label.text) x) (pair (escaped_key label.text) y) (packed_pairs one parts) (packed_pairs other parts) (pairs_alike parts)) (alike tree false)
    pairs_alike (part (Slot.FieldPlace tag label index) tree parts) =
        alike_on (λ json. map_packed (pair (escaped_key label.text) json) (packed_pairs one parts)) (λ json. map_packed (pair (escaped_key label.text) json) (packed_pairs other parts)) (packs one tree false) (packs other tree false)
        (λ x y. alike_maps (pair (escaped_key label.text) x) (pair (escaped_key label.text) y) (packed_pairs one parts) (packed_pairs other parts) (pairs_alike parts)) (alike tree false)
    pairs_alike parts = tt

-- what stands beside a shape, and beside a refusal
beside_shape : {T : Type 0} (p q : Result T PackRefusal) (x : T) → Alike p q → p ≡ Ok x → (y : T) × (q ≡ Ok y)
beside_shape (Ok x) (Ok y) z h e = (y, refl)
beside_shape (Ok x) (Err why) z h e = absurd h
beside_shape (Err why) q z h e = cc e

beside_refusal : {T : Type 0} (p q : Result T PackRefusal) (why : PackRefusal) → Alike p q → p ≡ Err why → q ≡ Err why
beside_refusal (Ok x) q why h e = cc e
beside_refusal (Err one) (Ok y) why h e = absurd h
beside_refusal (Err one) (Err two) why h e = let same : one ≡ why = cc e in ap Err (sym h ∙ same)

pub packs_alike : (one other : Style) (tree : Tree) (json : Json) → pack_as one tree ≡ Ok json → (found : Json) × (pack_as other tree ≡ Ok found)
packs_alike one other tree json e = beside_shape (pack_as one tree) (pack_as other tree) json (alike one other tree false) e

pub refused_alike : (one other : Style) (tree : Tree) (why : PackRefusal) → pack_as one tree ≡ Err why → pack_as other tree ≡ Err why
refused_alike one other tree why e = beside_refusal (pack_as one tree) (pack_as other tree) why (alike one other tree false) e
