-- Where a tree packs, it has a shape too, and both have the same text.
use Rattle.std.specs.Prelude.{◌≡◌, ℕ, Bool, true, false, ◌||◌, bytes_eq, if◌then◌else◌, List, [], ◌∷◌, ◌++◌, Option, Some, None, Result, Ok, Err, codes, ⊤, refl}
use Rattle.std.specs.List.{list_all}
use Rattle.std.proofs.Common.{sym, ap, subst, arith, inl, inr}
use Rattle.std.proofs.lemmas.Bool.{and_parts}
use Rattle.std.proofs.lemmas.Bool.Decides.{nat_tests}
use Rattle.std.proofs.lemmas.Slice.Eq.{bytes_eq-Decides}
use Rattle.std.proofs.lemmas.List.Sums.{AllPass-from_list_all}
use Rattle.sval_label.specs.Calls.{Head, Slot, Name, Label}
use Rattle.sval_core.specs.Trees.{Tree, Null, Truth, Int, Text, Binary, Standalone, Tagged, EmptyEnum, Enum, Container, Parts, none, part, TextKind, Ordinary, Number, JsonValue, JsonText, JsonNumber, text_kind}
use Rattle.sval_json.specs.Escape.{escaped, in_quotes, is_plain}
use Rattle.sval_json.specs.Json as shape
use Rattle.sval_json.specs.Json.{Key, escaped_key, raw_key, Json, Items, no_item, item, Pairs, no_pair, pair, key_text, comma, compact, compact_items, compact_pairs}
use Rattle.sval_json.specs.Number as json
use Rattle.sval_json.specs.Number.{normal}
use Rattle.sval_json.specs.declared.style.Variants.TheVariants.{Inside}
use Rattle.sval_json.specs.Shape as json_shape
use Rattle.sval_json.specs.Shape.{handle, own, wrap_in, wrap, is_wrapped, is_identifier, field_key, tagged_json, tagged_key, bare_text, key, byte_items, items, pairs, json_of}
use Rattle.sval_json.specs.Digits.{is_number_byte}
use Rattle.sval_json.specs.Promises.{KeepsLabelPromise}
use Rattle.sval_json.proofs.NumberGrammar.{number_bytes}
use Rattle.sval_json.proofs.EscapedPieces.{escaped-plain}
use Rattle.sval_json.proofs.NumberTexts.{normal_form}
use Rattle.sval_cbor.specs.declared.style.TheConstants.Style.{DEFAULT}
use Rattle.sval_cbor.specs.Packs.{PackRefusal, NotInteger, on_packed, map_packed, is_whole_number, number_pack, tagged_pack, is_raw_kind, is_raw, key_bytes, pack_key_as, pack_key, packs, packed_items, packed_pairs, pack_of}
use Rattle.sval_cbor.specs.Premises.{HasPlainIdentifiers, HavePlainIdentifiers}

-- where the first is no refusal, neither is the second, and what they are stands in this relation
abbrev Agree : {T : Type 0} → (T → T → Type 0) → Result T PackRefusal → Result T json.Refusal → Type 0
Agree R (Ok x) (Ok y) = R x y
Agree R (Ok x) (Err why) = ⊥
Agree R (Err why) _ = ⊤

agree_map : {T U : Type 0} (R : T → T → Type 0) (S : U → U → Type 0) (f g : T → U) (p : Result T PackRefusal) (q : Result T json.Refusal)
    → ((x y : T) → R x y → S (f x) (g y)) → Agree R p q → Agree S (map_packed f p) (json_shape.map_ok g q)
agree_map R S f g (Ok x) (Ok y) h a = h x y a
agree_map R S f g (Ok x) (Err why) h a = a
agree_map R S f g (Err why) q h a = tt

agree_on : {T U : Type 0} (R : T → T → Type 0) (S : U → U → Type 0) (f : T → Result U PackRefusal) (g : T → Result U json.Refusal) (p : Result T PackRefusal) (q : Result T json.Refusal)
    → ((x y : T) → R x y → Agree S (f x) (g y)) → Agree R p q → Agree S (on_packed p f) (json_shape.on_ok q g)
agree_on R S f g (Ok x) (Ok y) h a = h x y a
agree_on R S f g (Ok x) (Err why) h a = absurd a
agree_on R S f g (Err why) q h a = tt

abbrev SameText : Json → Json → Type 0
SameText one other = compact one ≡ compact other

abbrev SameItems : Items → Items → Type 0
SameItems one other = (first : Bool) → compact_items first one ≡ compact_items first other

abbrev SamePairs : Pairs → Pairs → Type 0
SamePairs one other = (first : Bool) → compact_pairs first one ≡ compact_pairs first other

abbrev SameKey : Key → Key → Type 0
SameKey one other = key_text one ≡ key_text other

same_array : (one other : Items) → SameItems one other → SameText (shape.array one) (shape.array other)
same_array one other h = ap (λ x. codes "[" ++ x ++ codes "]") (h true)

same_object : (one other : Pairs) → SamePairs one other → SameText (shape.object one) (shape.object other)
same_object one other h = ap (λ x. codes "{" ++ x ++ codes "}") (h true)

same_item : (j k : Json) (one other : Items) → SameText j k → SameItems one other → SameItems (item j one) (item k other)
same_item j k one other e h first = rw (e, h false) refl

same_pair : (a b : Key) (j k : Json) (one other : Pairs) → SameKey a b → SameText j k → SamePairs one other → SamePairs (pair a j one) (pair b k other)
same_pair a b j k one other d e h first = rw (d, e, h false) refl

same_wrapped : (o : Option (List ℕ)) (one other : Json) → SameText one other → SameText (wrap_in Inside o one) (wrap_in Inside o other)
same_wrapped (Some bytes) one other h =
    same_object (pair (escaped_key bytes) one no_pair) (pair (escaped_key bytes) other no_pair) (same_pair (escaped_key bytes) (escaped_key bytes) one other no_pair no_pair refl h (λ first. refl))
same_wrapped None one other h = h

same_wrap : (variant : Bool) (name : Name) (one other : Json) → SameText one other → SameText (wrap Inside variant name one) (wrap Inside variant name other)
same_wrap true name one other h = same_wrapped (handle name) one other h
same_wrap false name one other h = h

-- ---- numbers as text

number_by : (a b : Bool) (out : List ℕ) → bytes_eq out (codes "null") ≡ a
    → Agree SameText (let r : Result Json PackRefusal = if a then Ok shape.null else if b then Ok (shape.number out) else Err NotInteger in r) (Ok (shape.raw out))
number_by true b out e = let f : out ≡ codes "null" = (bytes_eq-Decides out (codes "null")).0 e in sym f
number_by false true out e = refl
number_by false false out e = tt

number_agrees : (r : Result (List ℕ) json.Refusal) → Agree SameText (number_pack r) (json_shape.map_ok shape.raw r)
number_agrees (Ok out) = number_by (bytes_eq out (codes "null")) (is_whole_number out) out refl
number_agrees (Err why) = tt

tagged_agrees : (kind : TextKind) (tree : Tree) (p : Result Json PackRefusal) (q : Result Json json.Refusal) → Agree SameText p q → Agree SameText (tagged_pack kind tree p) (tagged_json kind tree q)
tagged_agrees Number (Text bytes) p q h = number_agrees (normal bytes)
tagged_agrees JsonText (Text bytes) p q h = tt
tagged_agrees JsonValue (Text bytes) p q h = tt
tagged_agrees JsonNumber (Text bytes) p q h = tt
tagged_agrees kind tree p q h = h

-- ---- keys

number_byte_plain : (b : ℕ) → is_number_byte b ≡ true → is_plain b ≡ true
number_byte_plain b h = grind (arith, nat_tests)

number_plain : (bs : List ℕ) → list_all is_number_byte bs ≡ true → list_all is_plain bs ≡ true
number_plain [] h = refl
number_plain (b ∷ bs) h =
    let (a, r) = and_parts (is_number_byte b) (list_all is_number_byte bs) h in rw (number_byte_plain b a, number_plain bs r) refl

normal_plain : (text out : List ℕ) → normal text ≡ Ok out → escaped out ≡ out
normal_plain text out e = elim (normal_form text out e) [
  | inl j ↦ escaped-plain out (AllPass-from_list_all is_plain out (number_plain out (number_bytes out j)))
  | inr word ↦ rw word refl
]

-- the text of a key that isn't raw is that of its bytes, to be escaped
abbrev IsEscapedKey : Bool → Key → Type 0
IsEscapedKey true k = ⊤
IsEscapedKey false k = key_text (escaped_key (key_bytes k)) ≡ key_text k

abbrev KeyOk : Bool → Result Key json.Refusal → Type 0
KeyOk raw (Ok k) = IsEscapedKey raw k
KeyOk raw (Err why) = ⊤

escaped_is : (raw : Bool) (bytes : List ℕ) → IsEscapedKey raw (escaped_key bytes)
escaped_is true bytes = tt
escaped_is false bytes = refl

unless : (raw b : Bool) (why : json.Refusal) (r : Result Key json.Refusal) → KeyOk raw r → KeyOk raw (let s : Result Key json.Refusal = if b then Err why else r in s)
unless raw true why r h = tt
unless raw false why r h = h

normal_key : (raw : Bool) (text : List ℕ) (r : Result (List ℕ) json.Refusal) → normal text ≡ r → KeyOk raw (json_shape.map_ok raw_key r)
normal_key true text (Ok out) e = tt
normal_key false text (Ok out) e = ap in_quotes (normal_plain text out e)
normal_key raw text (Err why) e = tt

tagged_key_ok : (kind : TextKind) (tree : Tree) (r : Result Key json.Refusal) → KeyOk (is_raw tree) r → KeyOk (is_raw_kind kind || is_raw tree) (tagged_key kind tree r)
tagged_key_ok Ordinary tree r h = h
tagged_key_ok Number (Text bytes) r h = normal_key false bytes (normal bytes) refl
tagged_key_ok JsonText (Text bytes) r h = tt
tagged_key_ok JsonValue (Text bytes) r h = tt
tagged_key_ok JsonNumber (Text bytes) r h = tt
tagged_key_ok JsonText tree (Ok k) h = tt
tagged_key_ok JsonText tree (Err why) h = tt
tagged_key_ok JsonNumber tree (Ok k) h = tt
tagged_key_ok JsonNumber tree (Err why) h = tt
tagged_key_ok kind tree r h = h

key_ok : (t : Tree) (variant : Bool) → KeyOk (is_raw t) (key t variant)
key_ok Null variant = refl
key_ok (Truth b) variant = refl
key_ok (Int type n) variant = refl
key_ok (Text bytes) variant = refl
key_ok (Binary bytes) variant = tt
key_ok (Standalone name) variant = refl
key_ok (Tagged name tree) variant =
    unless (is_raw_kind (text_kind name.tag) || is_raw tree) (is_wrapped variant name) _ (tagged_key (text_kind name.tag) tree (key tree false)) (tagged_key_ok (text_kind name.tag) tree (key tree false) (key_ok tree false))
key_ok (EmptyEnum name) variant = unless false (is_wrapped variant name) _ (Ok (escaped_key (bare_text (own name)))) refl
key_ok (Enum name tree) variant = unless (is_raw tree) (is_wrapped variant name) _ (key tree true) (key_ok tree true)
key_ok (Container head parts) variant = tt

key_as : (r : Result Key json.Refusal) (raw : Bool) → KeyOk raw r → Agree SameKey (pack_key_as r raw) r
key_as (Err json.InvalidKey) raw h = tt
key_as (Err json.InvalidNumber) true h = tt
key_as (Err json.InvalidNumber) false h = tt
key_as (Ok k) true h = tt
key_as (Ok k) false h = h

key_agrees : (t : Tree) → Agree SameKey (pack_key t) (key t false)
key_agrees t = key_as (key t false) (is_raw t) (key_ok t false)

label_agrees : (label : Label) → KeepsLabelPromise label → SameKey (escaped_key label.text) (field_key label)
label_agrees label h = (elim (is_identifier label.tag) as (λ b. is_identifier label.tag ≡ b → SameKey (escaped_key label.text) (if b then raw_key label.text else escaped_key label.text)) [
  | true ↦ λ e. ap in_quotes (h e)
  | false ↦ λ e. refl
]) refl

-- ---- trees

mutual
  same : (t : Tree) (variant : Bool) → HasPlainIdentifiers t → Agree SameText (packs DEFAULT t variant) (json_shape.shape Inside t variant)
  same Null variant p = refl
  same (Truth b) variant p = refl
  same (Int type n) variant p = refl
  same (Text bytes) variant p = refl
  same (Binary bytes) variant p = refl
  same (Standalone name) variant p = refl
  same (Tagged name tree) variant p =
      agree_map SameText SameText (wrap Inside variant name) (wrap Inside variant name) (tagged_pack (text_kind name.tag) tree (packs DEFAULT tree false)) (tagged_json (text_kind name.tag) tree (json_shape.shape Inside tree false))
      (same_wrap variant name) (tagged_agrees (text_kind name.tag) tree (packs DEFAULT tree false) (json_shape.shape Inside tree false) (same tree false p))
  same (EmptyEnum name) variant p = refl
  same (Enum name tree) variant p = agree_map SameText SameText (wrap Inside variant name) (wrap Inside variant name) (packs DEFAULT tree true) (json_shape.shape Inside tree true) (same_wrap variant name) (same tree true p)
  same (Container Head.Seq parts) variant p = agree_map SameItems SameText shape.array shape.array (packed_items DEFAULT parts) (items Inside parts) same_array (same_items parts p)
  same (Container Head.Map parts) variant p = agree_map SamePairs SameText shape.object shape.object (packed_pairs DEFAULT parts) (pairs Inside parts) same_object (same_pairs parts p)
  same (Container (Head.Record name) parts) variant p =
      agree_map SamePairs SameText (λ row. wrap Inside variant name (shape.object row)) (λ row. wrap Inside variant name (shape.object row)) (packed_pairs DEFAULT parts) (pairs Inside parts)
      (λ x y h. same_wrap variant name (shape.object x) (shape.object y) (same_object x y h)) (same_pairs parts p)
  same (Container (Head.Tuple name) parts) variant p =
      agree_map SameItems SameText (λ row. wrap Inside variant name (shape.array row)) (λ row. wrap Inside variant name (shape.array row)) (packed_items DEFAULT parts) (items Inside parts)
      (λ x y h. same_wrap variant name (shape.array x) (shape.array y) (same_array x y h)) (same_items parts p)
  same (Container (Head.RecordTuple name) parts) variant p =
      agree_map SamePairs SameText (λ row. wrap Inside variant name (shape.object row)) (λ row. wrap Inside variant name (shape.object row)) (packed_pairs DEFAULT parts) (pairs Inside parts)
      (λ x y h. same_wrap variant name (shape.object x) (shape.object y) (same_object x y h)) (same_pairs parts p)

  same_items : (parts : Parts) → HavePlainIdentifiers parts → Agree SameItems (packed_items DEFAULT parts) (items Inside parts)
  same_items none p = λ first. refl
  same_items (part slot tree parts) p =
      agree_on SameText SameItems (λ json. map_packed (item json) (packed_items DEFAULT parts)) (λ json. json_shape.map_ok (item json) (items Inside parts)) (packs DEFAULT tree false) (json_shape.shape Inside tree false)
      (λ x y h. agree_map SameItems SameItems (item x) (item y) (packed_items DEFAULT parts) (items Inside parts) (λ row other k. same_item x y row other h k) (same_items parts p.2)) (same tree false p.1)

  same_pairs : (parts : Parts) → HavePlainIdentifiers parts → Agree SamePairs (packed_pairs DEFAULT parts) (pairs Inside parts)
  same_pairs (part Slot.Key name (part slot tree parts)) p =
      agree_on SameKey SamePairs (λ k. on_packed (packs DEFAULT tree false) (λ json. map_packed (pair k json) (packed_pairs DEFAULT parts))) (λ k. json_shape.on_ok (json_shape.shape Inside tree false) (λ json. json_shape.map_ok (pair k json) (pairs Inside parts)))
      (pack_key name) (key name false)
      (λ a b d. agree_on SameText SamePairs (λ json. map_packed (pair a json) (packed_pairs DEFAULT parts)) (λ json. json_shape.map_ok (pair b json) (pairs Inside parts)) (packs DEFAULT tree false) (json_shape.shape Inside tree false)
      (λ x y h. agree_map SamePairs SamePairs (pair a x) (pair b y) (packed_pairs DEFAULT parts) (pairs Inside parts) (λ row other k. same_pair a b x y row other d h k) (same_pairs parts p.2.2)) (same tree false p.2.1))
      (key_agrees name)
  same_pairs (part (Slot.Field tag label) tree parts) p =
      agree_on SameText SamePairs (λ json. map_packed (pair (escaped_key label.text) json) (packed_pairs DEFAULT parts)) (λ json. json_shape.map_ok (pair (field_key label) json) (pairs Inside parts)) (packs DEFAULT tree false) (json_shape.shape Inside tree false)
      (λ x y h. agree_map SamePairs SamePairs (pair (escaped_key label.text) x) (pair (field_key label) y) (packed_pairs DEFAULT parts) (pairs Inside parts)
      (λ row other k. same_pair (escaped_key label.text) (field_key label) x y row other (label_agrees label p.0) h k) (same_pairs parts p.2)) (same tree false p.1)
  same_pairs (part (Slot.FieldPlace tag label index) tree parts) p =
      agree_on SameText SamePairs (λ json. map_packed (pair (escaped_key label.text) json) (packed_pairs DEFAULT parts)) (λ json. json_shape.map_ok (pair (field_key label) json) (pairs Inside parts)) (packs DEFAULT tree false) (json_shape.shape Inside tree false)
      (λ x y h. agree_map SamePairs SamePairs (pair (escaped_key label.text) x) (pair (field_key label) y) (packed_pairs DEFAULT parts) (pairs Inside parts)
      (λ row other k. same_pair (escaped_key label.text) (field_key label) x y row other (label_agrees label p.0) h k) (same_pairs parts p.2)) (same tree false p.1)
  same_pairs parts p = λ first. refl

agreed : (one : Json) (r : Result Json json.Refusal) → Agree SameText (Ok one) r → (written : Json) × (r ≡ Ok written) × (compact one ≡ compact written)
agreed one (Ok written) h = (written, refl, h)
agreed one (Err why) h = absurd h

pub same_text : (tree : Tree) (json : Json) → HasPlainIdentifiers tree → pack_of tree ≡ Ok json → (written : Json) × (json_of tree ≡ Ok written) × (compact json ≡ compact written)
same_text tree json p e = agreed json (json_of tree) (subst (λ r. Agree SameText r (json_of tree)) e (same tree false p))
