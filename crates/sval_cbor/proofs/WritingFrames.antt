-- Results in front of others: what is written of a tree before its enum ends, and of parts within their container.
use Rattle.std.specs.Prelude.{◌≡◌, ℕ, ◌+◌, Bool, true, false, List, [], ◌++◌, if◌then◌else◌, Option, Some, None, Result, Ok, Err, refl}
use Rattle.std.proofs.Common.{sym, ap, arith, ◌∙◌, append_assoc, append-nil}
use Rattle.sval_label.specs.Calls.{Head, Name}
use Rattle.sval_core.specs.Trees.{Tree, Null, Truth, Int, Text, Binary, Standalone, Tagged, EmptyEnum, Enum, Container, text_kind}
use Rattle.sval_json.specs.Json as shape
use Rattle.sval_json.specs.Json.{Key, escaped_key, Json, Items, no_item, item, Pairs, no_pair, pair}
use Rattle.sval_json.specs.declared.style.Variants.TheVariants.{Inside}
use Rattle.sval_json.specs.Shape.{handle, own, wrap_in, wrap}
use Rattle.sval_cbor.specs.declared.style.Lengths.{Lengths}
use Rattle.sval_cbor.specs.declared.style.Style.{Style}
use Rattle.sval_cbor.specs.Packs.{PackRefusal, on_packed, map_packed, tagged_pack, binary_shape, packs, packed_items, packed_pairs}
use Rattle.sval_cbor.specs.Cbor.{string, item_count, pair_count, held_count, row_head, row_end, cbor_as, cbor_items_as, cbor_pairs_as}
use Rattle.sval_cbor.specs.Writing.{EnumPlace, Elsewhere, Begun, Ended, CborState, cbor_state, opening, after_handle, enum_end_bytes}
use Rattle.sval_cbor.proofs.Packed.{IfOk}
use Rattle.sval_cbor.proofs.WritingPlain.{prepend, prepend_twice, and_then, bare_handle}
use Rattle.sval_cbor.proofs.WritingKeys.{key_string, is_begun, after}

abbrev pub in_value : Style → EnumPlace → List ℕ → CborState
in_value style place counts = cbor_state style place false false counts

abbrev nameless : Name
nameless = record { tag = None; label = None; index = None }

-- the name that a tree stands behind in an enum
abbrev pub name_of : Tree → Name
name_of (Tagged name _) = name
name_of (EmptyEnum name) = name
name_of (Enum name _) = name
name_of (Container (Head.Record name) _) = name
name_of (Container (Head.Tuple name) _) = name
name_of (Container (Head.RecordTuple name) _) = name
name_of _ = nameless

-- what it packs to without that name
abbrev pub body : Style → Tree → Result Json PackRefusal
body style (Tagged name tree) = tagged_pack (text_kind name.tag) tree (packs style tree false)
body style (EmptyEnum name) = Ok (own name)
body style (Enum name tree) = packs style tree true
body style (Container (Head.Record name) parts) = map_packed shape.object (packed_pairs style parts)
body style (Container (Head.Tuple name) parts) = map_packed shape.array (packed_items style parts)
body style (Container (Head.RecordTuple name) parts) = map_packed shape.object (packed_pairs style parts)
body style tree = packs style tree false

-- directly in an enum, what comes in front of a value that has a handle
abbrev pub front : Lengths → Option (List ℕ) → Bool → List ℕ
front lengths (Some bytes) variant = if variant then row_head lengths 5 1 ++ string 3 bytes else []
front lengths None variant = []

-- what is written of a tree before its enum ends
abbrev pub unclosed : Style → Tree → Bool → Result (List ℕ) PackRefusal
unclosed style t variant = map_packed (λ json. front style.lengths (handle (name_of t)) variant ++ cbor_as style.lengths json) (body style t)

-- ---- results

map_twice : {T U V : Type 0} (f : T → U) (g : U → V) (r : Result T PackRefusal) → map_packed g (map_packed f r) ≡ map_packed (λ x. g (f x)) r
map_twice f g (Ok x) = refl
map_twice f g (Err why) = refl

map_same : {T : Type 0} (f : T → T) → ((x : T) → f x ≡ x) → (r : Result T PackRefusal) → map_packed f r ≡ r
map_same f h (Ok x) = ap Ok (h x)
map_same f h (Err why) = refl

nameless_wrap : (variant : Bool) (j : Json) → wrap Inside variant nameless j ≡ j
nameless_wrap true j = refl
nameless_wrap false j = refl

leaf_packs : (variant : Bool) (r : Result Json PackRefusal) → r ≡ map_packed (wrap Inside variant nameless) r
leaf_packs variant r = sym (map_same (wrap Inside variant nameless) (nameless_wrap variant) r)

pub packs_body : (style : Style) (t : Tree) (variant : Bool) → packs style t variant ≡ map_packed (wrap Inside variant (name_of t)) (body style t)
packs_body style Null variant = leaf_packs variant (Ok shape.null)
packs_body style (Truth b) variant = leaf_packs variant (Ok (shape.truth b))
packs_body style (Int type n) variant = leaf_packs variant (packs style (Int type n) false)
packs_body style (Text bytes) variant = leaf_packs variant (Ok (shape.text bytes))
packs_body style (Binary bytes) variant = leaf_packs variant (Ok (binary_shape style.binaries bytes))
packs_body style (Standalone name) variant = leaf_packs variant (Ok (own name))
packs_body style (Tagged name tree) variant = refl
packs_body style (EmptyEnum name) variant = refl
packs_body style (Enum name tree) variant = refl
packs_body style (Container Head.Seq parts) variant = leaf_packs variant (map_packed shape.array (packed_items style parts))
packs_body style (Container Head.Map parts) variant = leaf_packs variant (map_packed shape.object (packed_pairs style parts))
packs_body style (Container (Head.Record name) parts) variant = sym (map_twice shape.object (wrap Inside variant name) (packed_pairs style parts))
packs_body style (Container (Head.Tuple name) parts) variant = sym (map_twice shape.array (wrap Inside variant name) (packed_items style parts))
packs_body style (Container (Head.RecordTuple name) parts) variant = sym (map_twice shape.object (wrap Inside variant name) (packed_pairs style parts))

no_front : (lengths : Lengths) (h : Option (List ℕ)) (bytes : List ℕ) → front lengths h false ++ bytes ≡ bytes
no_front lengths (Some x) bytes = refl
no_front lengths None bytes = refl

same_map : {T U : Type 0} (f g : T → U) → ((x : T) → f x ≡ g x) → (r : Result T PackRefusal) → map_packed f r ≡ map_packed g r
same_map f g h (Ok x) = ap Ok (h x)
same_map f g h (Err why) = refl

-- outside enums nothing stands in front
pub unclosed_plain : (style : Style) (t : Tree) → unclosed style t false ≡ map_packed (cbor_as style.lengths) (packs style t false)
unclosed_plain style t =
    let bytes = cbor_as style.lengths in
    same_map (λ json. front style.lengths (handle (name_of t)) false ++ bytes json) bytes (λ json. no_front style.lengths (handle (name_of t)) (bytes json)) (body style t)
    ∙ ap (map_packed bytes) (sym (packs_body style t false ∙ map_same (wrap Inside false (name_of t)) (λ json. refl) (body style t)))

pub value_opening : (lengths : Lengths) (h : Option (List ℕ)) (place : EnumPlace) → opening lengths h place false ≡ (let r : Result (List ℕ) PackRefusal = Ok (front lengths h (is_begun place)) in r)
value_opening lengths (Some bytes) Begun = refl
value_opening lengths (Some bytes) Elsewhere = refl
value_opening lengths (Some bytes) Ended = refl
value_opening lengths None Begun = refl
value_opening lengths None Elsewhere = refl
value_opening lengths None Ended = refl

-- ---- frames: a head, what is within, and the end

framed : (made head within end : List ℕ) (q : Result (List ℕ) PackRefusal) → prepend (made ++ head) (prepend within (prepend end q)) ≡ prepend (made ++ (head ++ within ++ end)) q
framed made head within end q =
    prepend_twice (made ++ head) within (prepend end q) ∙ prepend_twice (made ++ head ++ within) end q
    ∙ ap (λ x. prepend x q) (ap (λ x. x ++ end) (append_assoc made head within) ∙ append_assoc made (head ++ within) end)

pub array_framed : (lengths : Lengths) (n : ℕ) (made : List ℕ) (r : Result Items PackRefusal) (q : Result (List ℕ) PackRefusal) → IfOk (λ row. item_count row ≡ n) r
    → prepend (made ++ row_head lengths 4 (held_count n)) (and_then (map_packed (cbor_items_as lengths) r) (prepend (row_end lengths) q)) ≡ and_then (map_packed (λ json. made ++ cbor_as lengths json) (map_packed shape.array r)) q
array_framed lengths n made (Ok row) q e =
    ap (λ k. prepend (made ++ row_head lengths 4 (held_count k)) (prepend (cbor_items_as lengths row) (prepend (row_end lengths) q))) (sym e)
    ∙ framed made (row_head lengths 4 (held_count (item_count row))) (cbor_items_as lengths row) (row_end lengths) q
array_framed lengths n made (Err why) q e = refl

pub object_framed : (lengths : Lengths) (n : ℕ) (made : List ℕ) (r : Result Pairs PackRefusal) (q : Result (List ℕ) PackRefusal) → IfOk (λ row. pair_count row ≡ n) r
    → prepend (made ++ row_head lengths 5 (held_count n)) (and_then (map_packed (cbor_pairs_as lengths) r) (prepend (row_end lengths) q)) ≡ and_then (map_packed (λ json. made ++ cbor_as lengths json) (map_packed shape.object r)) q
object_framed lengths n made (Ok row) q e =
    ap (λ k. prepend (made ++ row_head lengths 5 (held_count k)) (prepend (cbor_pairs_as lengths row) (prepend (row_end lengths) q))) (sym e)
    ∙ framed made (row_head lengths 5 (held_count (pair_count row))) (cbor_pairs_as lengths row) (row_end lengths) q
object_framed lengths n made (Err why) q e = refl

pub items_joined : (lengths : Lengths) (p : Result Json PackRefusal) (r : Result Items PackRefusal) (q : Result (List ℕ) PackRefusal)
    → and_then (map_packed (cbor_as lengths) p) (and_then (map_packed (cbor_items_as lengths) r) q) ≡ and_then (map_packed (cbor_items_as lengths) (on_packed p (λ json. map_packed (item json) r))) q
items_joined lengths (Ok json) (Ok row) q = prepend_twice (cbor_as lengths json) (cbor_items_as lengths row) q
items_joined lengths (Ok json) (Err why) q = refl
items_joined lengths (Err why) r q = refl

pub pairs_joined : (lengths : Lengths) (k : Result Key PackRefusal) (p : Result Json PackRefusal) (r : Result Pairs PackRefusal) (q : Result (List ℕ) PackRefusal)
    → and_then (map_packed key_string k) (and_then (map_packed (cbor_as lengths) p) (and_then (map_packed (cbor_pairs_as lengths) r) q)) ≡ and_then (map_packed (cbor_pairs_as lengths) (on_packed k (λ key. on_packed p (λ json. map_packed (pair key json) r)))) q
pairs_joined lengths (Ok k) (Ok json) (Ok row) q =
    prepend_twice (key_string k) (cbor_as lengths json) (prepend (cbor_pairs_as lengths row) q) ∙ prepend_twice (key_string k ++ cbor_as lengths json) (cbor_pairs_as lengths row) q
pairs_joined lengths (Ok k) (Ok json) (Err why) q = refl
pairs_joined lengths (Ok k) (Err why) r q = refl
pairs_joined lengths (Err why) p r q = refl

-- ---- counts of what parts pack to

pub item_counted : (p : Result Json PackRefusal) (r : Result Items PackRefusal) (n : ℕ) → IfOk (λ row. item_count row ≡ n) r
    → IfOk (λ row. item_count row ≡ 1 + n) (on_packed p (λ json. map_packed (item json) r))
item_counted (Ok json) (Ok row) n e = omega (arith, e)
item_counted (Ok json) (Err why) n e = tt
item_counted (Err why) r n e = tt

pub pair_counted : (k : Result Key PackRefusal) (p : Result Json PackRefusal) (r : Result Pairs PackRefusal) (n m : ℕ) → m ≡ 1 + n → IfOk (λ row. pair_count row ≡ n) r
    → IfOk (λ row. pair_count row ≡ m) (on_packed k (λ key. on_packed p (λ json. map_packed (pair key json) r)))
pair_counted (Ok k) (Ok json) (Ok row) n m l e = omega (arith, l, e)
pair_counted (Ok k) (Ok json) (Err why) n m l e = tt
pair_counted (Ok k) (Err why) r n m l e = tt
pair_counted (Err why) p r n m l e = tt

-- ---- enums

abbrev pub closing : Lengths → EnumPlace → List ℕ
closing lengths Ended = row_end lengths
closing lengths _ = []

wrapped_bytes : (lengths : Lengths) (h : Option (List ℕ)) (json : Json) → cbor_as lengths (wrap_in Inside h json) ≡ front lengths h true ++ cbor_as lengths json ++ closing lengths (after_handle h)
wrapped_bytes lengths (Some bytes) json =
    ap (λ x. row_head lengths 5 1 ++ x ++ row_end lengths) (append-nil (string 3 bytes ++ cbor_as lengths json))
    ∙ ap (λ x. x ++ row_end lengths) (sym (append_assoc (row_head lengths 5 1) (string 3 bytes) (cbor_as lengths json)))
wrapped_bytes lengths None json = sym (append-nil (cbor_as lengths json))

pub enum_closed : (lengths : Lengths) (made : List ℕ) (h : Option (List ℕ)) (r : Result Json PackRefusal) (q : Result (List ℕ) PackRefusal)
    → prepend (made ++ []) (and_then (map_packed (λ json. front lengths h true ++ cbor_as lengths json) r) (prepend (closing lengths (after_handle h)) q)) ≡ and_then (map_packed (λ json. made ++ cbor_as lengths json) (map_packed (wrap_in Inside h) r)) q
enum_closed lengths made h (Ok json) q =
    ap (prepend (made ++ [])) (prepend_twice (front lengths h true ++ cbor_as lengths json) (closing lengths (after_handle h)) q ∙ ap (λ x. prepend x q) (sym (wrapped_bytes lengths h json)))
    ∙ prepend_twice (made ++ []) (cbor_as lengths (wrap_in Inside h json)) q ∙ ap (λ x. prepend (x ++ cbor_as lengths (wrap_in Inside h json)) q) (append-nil made)
enum_closed lengths made h (Err why) q = refl

after_is : (t : Tree) → after t ≡ after_handle (handle (name_of t))
after_is (Tagged name tree) = ap after_handle (bare_handle name)
after_is (EmptyEnum name) = ap after_handle (bare_handle name)
after_is (Enum name tree) = ap after_handle (bare_handle name)
after_is (Container Head.Seq parts) = refl
after_is (Container Head.Map parts) = refl
after_is (Container (Head.Record name) parts) = ap after_handle (bare_handle name)
after_is (Container (Head.Tuple name) parts) = ap after_handle (bare_handle name)
after_is (Container (Head.RecordTuple name) parts) = ap after_handle (bare_handle name)
after_is _ = refl

end_by : (lengths : Lengths) (h : Option (List ℕ)) (j : Json) → enum_end_bytes lengths (after_handle h) false j ≡ closing lengths (after_handle h)
end_by lengths (Some bytes) j = refl
end_by lengths None j = refl

-- the end of an enum ends the map that its value was put into
pub enum_closes : (lengths : Lengths) (t : Tree) (j : Json) → enum_end_bytes lengths (after t) false j ≡ closing lengths (after_handle (handle (name_of t)))
enum_closes lengths t j = ap (λ place. enum_end_bytes lengths place false j) (after_is t) ∙ end_by lengths (handle (name_of t)) j
