-- What stands in front of a value, what begins and ends the parts of a container, and the texts of these.
use Rattle.std.specs.Prelude.{◌≡◌, ℕ, Bool, true, false, List, [], ◌∷◌, ◌++◌, codes, if◌then◌else◌, is_some, Option, Some, None, Result, Ok, Err, refl}
use Rattle.std.proofs.Common.{sym, ap, append_assoc, append-nil}
use Rattle.sval_label.specs.Calls.{Head, Slot, Label}
use Rattle.sval_core.specs.Trees.{Tree, Standalone, Tagged, EmptyEnum, Enum, Container, Parts, part, Kind, Item, Field, Place, FieldPlace, kind_of, next_kind, text_kind, IsVariant}
use Rattle.sval_core.specs.Spells.{bare_slot}
use Rattle.sval_json.specs.declared.style.Variants.{Variants}
use Rattle.sval_json.specs.declared.style.Variants.TheVariants.{Inside, Beside}
use Rattle.sval_json.specs.Escape.{escaped, in_quotes}
use Rattle.sval_json.specs.Json.{Key as JsonKey, Json, array, object, Items, item, Pairs, pair, escaped_key, raw_key, comma, compact, compact_items, compact_pairs, key_text}
use Rattle.sval_json.specs.Number.{Refusal}
use Rattle.sval_json.specs.Shape.{on_ok, map_ok, handle, own, is_identifier, wrap_in, field_key, tagged_json, shape, items, pairs}
use Rattle.sval_json.specs.Actions.{escapes, WriterState, nothing, ◌then◌}
use Rattle.sval_json.specs.Steps.{opens, name_step, item_begins, field_begins, key_label_text, part_begins, part_ends}
use Rattle.sval_json.proofs.Writing.{at, wrote, handle_front, front, close}
use Rattle.sval_json.proofs.WritingKeys.{key_inner}

-- the handle of a tree that stands directly in an enum
abbrev pub head_handle : Head → Option (List ℕ)
head_handle Head.Seq = None
head_handle Head.Map = None
head_handle (Head.Record name) = handle name
head_handle (Head.Tuple name) = handle name
head_handle (Head.RecordTuple name) = handle name

abbrev pub handle_in : Tree → Option (List ℕ)
handle_in (Tagged name _) = handle name
handle_in (EmptyEnum name) = handle name
handle_in (Enum name _) = handle name
handle_in (Container head _) = head_handle head
handle_in _ = None

pub front_none : (style : Variants) (v : Bool) → front style v None ≡ []
unfolding front handle_front
front_none style true = refl
front_none style false = refl

pub same_map : {T : Type 0} (x : Result T Refusal) → map_ok (λ y. y) x ≡ x
same_map (Ok y) = refl
same_map (Err e) = refl

pub fuse : {T U V : Type 0} (f : U → V) (g : T → U) (x : Result T Refusal) → map_ok f (map_ok g x) ≡ map_ok (λ y. f (g y)) x
fuse f g (Ok y) = refl
fuse f g (Err e) = refl

beside_joined : (handle value : List ℕ) → handle ++ codes "\"" ++ (codes ",\"value\":" ++ value ++ []) ++ codes "}" ≡ handle ++ codes "\",\"value\":" ++ value ++ codes "}"
beside_joined [] value = ap (λ w. codes "\",\"value\":" ++ w ++ codes "}") (append-nil value)
beside_joined (byte ∷ handle) value = ap (λ w. byte ∷ w) (beside_joined handle value)

-- a wrapped value is the value between what stands in front of it and what closes it
wrapped_text : (style : Variants) (h : Option (List ℕ)) (j : Json) → compact (wrap_in style h j) ≡ front style true h ++ compact j ++ close (is_some h)
unfolding front handle_front close
wrapped_text style None j = sym (append-nil (compact j))
wrapped_text Inside (Some b) j = simp append_assoc
wrapped_text Beside (Some b) j = ap (λ w. codes "{\"variant\":\"" ++ w) (beside_joined (escaped b) (compact j))

wrap_made : (style : Variants) → {T : Type 0} (h : Option (List ℕ)) (f : T → Json) (x : Result T Refusal) → map_ok compact (map_ok (λ y. wrap_in style h (f y)) x) ≡ map_ok (λ y. front style true h ++ y ++ close (is_some h)) (map_ok compact (map_ok f x))
wrap_made style h f (Ok y) = ap (λ w. Ok w) (wrapped_text style h (f y))
wrap_made style h f (Err e) = refl

pub shape_true : (style : Variants) (t : Tree) → IsVariant t → map_ok compact (shape style t true) ≡ map_ok (λ y. front style true (handle_in t) ++ y ++ close (is_some (handle_in t))) (map_ok compact (shape style t false))
unfolding front handle_front close
shape_true style (Standalone name) i = ap (λ w. Ok w) (sym (append-nil (compact (own name))))
shape_true style (Tagged name tree) i = wrap_made style (handle name) (λ j. j) (tagged_json (text_kind name.tag) tree (shape style tree false))
shape_true style (EmptyEnum name) i = wrap_made style (handle name) (λ j. j) (Ok (own name))
shape_true style (Enum name tree) i = wrap_made style (handle name) (λ j. j) (shape style tree true)
shape_true style (Container Head.Seq parts) i = absurd i
shape_true style (Container Head.Map parts) i = absurd i
shape_true style (Container (Head.Record name) parts) i = wrap_made style (handle name) object (pairs style parts)
shape_true style (Container (Head.Tuple name) parts) i = wrap_made style (handle name) array (items style parts)
shape_true style (Container (Head.RecordTuple name) parts) i = wrap_made style (handle name) object (pairs style parts)
shape_true style _ i = absurd i

-- what begins and ends the parts of a container
pub record AsItems (kind : Kind) : Type 0 where
  pub next : next_kind kind ≡ kind
  pub begins : (slot : Slot) → kind_of slot ≡ kind → (s : WriterState) → part_begins slot s ≡ item_begins s
  pub ends : (slot : Slot) → kind_of slot ≡ kind → (s : WriterState) → part_ends (bare_slot slot) s ≡ nothing s

pub label_of : Slot → Label
label_of (Slot.Field _ label) = label
label_of (Slot.FieldPlace _ label _) = label
label_of _ = record { text = []; tag = None; is_static = false }

pub record AsFields (style : Variants) (kind : Kind) : Type 0 where
  pub next : next_kind kind ≡ kind
  pub begins : (slot : Slot) → kind_of slot ≡ kind → (s : WriterState) → part_begins slot s ≡ field_begins (label_of slot) s
  pub ends : (slot : Slot) → kind_of slot ≡ kind → (s : WriterState) → part_ends (bare_slot slot) s ≡ nothing s
  pub as_pair : (slot : Slot) → kind_of slot ≡ kind → (t : Tree) (p : Parts) → pairs style (part slot t p) ≡ on_ok (shape style t false) (λ json. map_ok (pair (field_key (label_of slot)) json) (pairs style p))

item_begins_so : (slot : Slot) → kind_of slot ≡ Item → (s : WriterState) → part_begins slot s ≡ item_begins s
item_begins_so Slot.Item e s = refl
item_begins_so _ e s = absurd (cc)

item_ends_so : (slot : Slot) → kind_of slot ≡ Item → (s : WriterState) → part_ends (bare_slot slot) s ≡ nothing s
item_ends_so Slot.Item e s = refl
item_ends_so _ e s = absurd (cc)

place_begins_so : (slot : Slot) → kind_of slot ≡ Place → (s : WriterState) → part_begins slot s ≡ item_begins s
place_begins_so (Slot.Place _ _) e s = refl
place_begins_so _ e s = absurd (cc)

place_ends_so : (slot : Slot) → kind_of slot ≡ Place → (s : WriterState) → part_ends (bare_slot slot) s ≡ nothing s
place_ends_so (Slot.Place _ _) e s = refl
place_ends_so _ e s = absurd (cc)

field_begins_so : (slot : Slot) → kind_of slot ≡ Field → (s : WriterState) → part_begins slot s ≡ field_begins (label_of slot) s
unfolding label_of
field_begins_so (Slot.Field _ _) e s = refl
field_begins_so _ e s = absurd (cc)

field_ends_so : (slot : Slot) → kind_of slot ≡ Field → (s : WriterState) → part_ends (bare_slot slot) s ≡ nothing s
field_ends_so (Slot.Field _ _) e s = refl
field_ends_so _ e s = absurd (cc)

field_pair : (style : Variants) (slot : Slot) → kind_of slot ≡ Field → (t : Tree) (p : Parts) → pairs style (part slot t p) ≡ on_ok (shape style t false) (λ json. map_ok (pair (field_key (label_of slot)) json) (pairs style p))
unfolding label_of
field_pair style (Slot.Field _ _) e t p = refl
field_pair style _ e t p = absurd (cc)

field_place_begins_so : (slot : Slot) → kind_of slot ≡ FieldPlace → (s : WriterState) → part_begins slot s ≡ field_begins (label_of slot) s
unfolding label_of
field_place_begins_so (Slot.FieldPlace _ _ _) e s = refl
field_place_begins_so _ e s = absurd (cc)

field_place_ends_so : (slot : Slot) → kind_of slot ≡ FieldPlace → (s : WriterState) → part_ends (bare_slot slot) s ≡ nothing s
field_place_ends_so (Slot.FieldPlace _ _ _) e s = refl
field_place_ends_so _ e s = absurd (cc)

field_place_pair : (style : Variants) (slot : Slot) → kind_of slot ≡ FieldPlace → (t : Tree) (p : Parts) → pairs style (part slot t p) ≡ on_ok (shape style t false) (λ json. map_ok (pair (field_key (label_of slot)) json) (pairs style p))
unfolding label_of
field_place_pair style (Slot.FieldPlace _ _ _) e t p = refl
field_place_pair style _ e t p = absurd (cc)

pub seq_items : AsItems Item
seq_items = record { next = refl; begins = item_begins_so; ends = item_ends_so }

pub tuple_items : AsItems Place
tuple_items = record { next = refl; begins = place_begins_so; ends = place_ends_so }

pub record_fields : (style : Variants) → AsFields style Field
record_fields style = record { next = refl; begins = field_begins_so; ends = field_ends_so; as_pair = field_pair style }

pub record_tuple_fields : (style : Variants) → AsFields style FieldPlace
record_tuple_fields style = record { next = refl; begins = field_place_begins_so; ends = field_place_ends_so; as_pair = field_place_pair style }

-- the texts of parts
pub more_items : (f : Bool) (x : Result Json Refusal) (y : Result Items Refusal) →
    map_ok (λ w. comma f ++ w) (on_ok (map_ok compact x) (λ v. map_ok (λ w. v ++ w) (map_ok (compact_items false) y))) ≡ map_ok (compact_items f) (on_ok x (λ json. map_ok (item json) y))
more_items f (Ok j) (Ok i) = ap (λ w. Ok w) (sym (append_assoc (comma f) (compact j) (compact_items false i)))
more_items f (Ok j) (Err e) = refl
more_items f (Err e) y = refl

label_key : (label : Label) → key_text (field_key label) ≡ in_quotes (key_label_text label)
label_key label = elim (is_identifier label.tag) as (λ b. key_text (if b then raw_key label.text else escaped_key label.text) ≡ in_quotes (if b then label.text else escaped label.text)) [ true ↦ refl | false ↦ refl ]

pub more_fields : (f : Bool) (label : Label) (x : Result Json Refusal) (y : Result Pairs Refusal) →
    map_ok (λ w. comma f ++ (codes "\"" ++ key_label_text label ++ codes "\":") ++ w) (on_ok (map_ok compact x) (λ v. map_ok (λ w. v ++ w) (map_ok (compact_pairs false) y)))
    ≡ map_ok (compact_pairs f) (on_ok x (λ json. map_ok (pair (field_key label) json) y))
more_fields f label (Ok j) (Ok i) = ap (λ w. Ok w) (rw (label_key label) (simp append_assoc))
more_fields f label (Ok j) (Err e) = refl
more_fields f label (Err e) y = refl

pub more_pairs : (f : Bool) (k : Result JsonKey Refusal) (x : Result Json Refusal) (y : Result Pairs Refusal) →
    map_ok (λ w. comma f ++ codes "\"" ++ w) (on_ok (map_ok (λ z. z ++ codes "\":") (map_ok key_inner k)) (λ u. map_ok (λ w. u ++ w) (on_ok (map_ok compact x) (λ v. map_ok (λ w. v ++ w) (map_ok (compact_pairs false) y)))))
    ≡ map_ok (compact_pairs f) (on_ok k (λ z. on_ok x (λ json. map_ok (pair z json) y)))
more_pairs f (Ok (escaped_key b)) (Ok j) (Ok i) = ap (λ w. Ok w) (simp append_assoc)
more_pairs f (Ok (raw_key b)) (Ok j) (Ok i) = ap (λ w. Ok w) (simp append_assoc)
more_pairs f (Ok k) (Ok j) (Err e) = refl
more_pairs f (Ok k) (Err e) y = refl
more_pairs f (Err e) x y = refl

-- a container between its brackets
pub contained : {T : Type 0} (w opening closing : List ℕ) (f : T → List ℕ) (x : Result T Refusal) →
    map_ok (λ y. w ++ opening ++ y) (map_ok (λ y. y ++ closing) (map_ok f x)) ≡ map_ok (λ y. w ++ y) (map_ok (λ i. opening ++ f i ++ closing) x)
contained w opening closing f (Ok y) = ap (λ w. Ok w) (simp append_assoc)
contained w opening closing f (Err e) = refl

pub name_opens : (style : Variants) (v e : Bool) (h : Option (List ℕ)) (bracket : List ℕ) → (name_step style h then opens bracket) (at v e true escapes) ≡ wrote (at false true true escapes) (front style v h ++ bracket)
unfolding front handle_front
name_opens style true e None b = refl
name_opens style true e (Some h) b = refl
name_opens style false e h b = refl
