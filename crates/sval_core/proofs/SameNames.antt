-- The tests on names decide what spelling compares.
use Rattle.std.specs.Prelude.{◌≡◌, Bool, false, ◌&&◌, Option, Some, None, option_map, refl}
use Rattle.std.specs.Bool.{Decides}
use Rattle.std.proofs.Common.{ap}
use Rattle.std.proofs.lemmas.Slice.Eq.{bytes_eq-Decides}
use Rattle.std.proofs.lemmas.Bool.Decides.{Decides-int_eq, Decides-and, Decides-like}
use Rattle.sval_label.specs.Calls.{Tag, Label, Index, Name, Head, Slot}
use Rattle.sval_label.specs.Equalities.{same_tag, same_label, same_index}
use Rattle.sval_core.specs.Spells.{bare_label, bare_index, bare_name, bare_head, bare_slot}
use Rattle.sval_core.specs.SameNames.{same_option, same_name, same_head, same_slot}

label_text : (a b : Label) → bare_label a ≡ bare_label b → a.text ≡ b.text
label_text a b e = ap (λ (l : Label). l.text) e

label_decides : (a b : Label) → Decides (same_label a b) (bare_label a ≡ bare_label b)
label_decides a b = Decides-like (same_label a b) (λ e. ap (λ text. let l : Label = record { text = text; tag = None; is_static = false } in l) e) (label_text a b) (bytes_eq-Decides a.text b.text)

index_decides : (a b : Index) → Decides (same_index a b) (bare_index a ≡ bare_index b)
index_decides a b = Decides-like (same_index a b) (λ e. ap (λ n. let i : Index = record { number = n; tag = None } in i) e) (λ e. ap (λ (i : Index). i.number) e) (Decides-int_eq a.number b.number)

option_decides : {T U : Type 0} (same : T → T → Bool) (bare : T → U) → ((a b : T) → Decides (same a b) (bare a ≡ bare b)) → (a b : Option T) → Decides (same_option same a b) (option_map bare a ≡ option_map bare b)
option_decides same bare each None None = (λ _. refl, λ _. refl)
option_decides same bare each None (Some b) = (λ e. absurd (cc), λ e. absurd (cc))
option_decides same bare each (Some a) None = (λ e. absurd (cc), λ e. absurd (cc))
option_decides same bare each (Some a) (Some b) = Decides-like (same a b) (λ e. ap Some e) (λ e. cc) (each a b)

tag_decides : (a b : Option Tag) → Decides (same_option same_tag a b) (a ≡ b)
tag_decides None None = (λ _. refl, λ _. refl)
tag_decides None (Some b) = (λ e. absurd (cc), λ e. absurd (cc))
tag_decides (Some a) None = (λ e. absurd (cc), λ e. absurd (cc))
tag_decides (Some a) (Some b) = Decides-like (same_tag a b) (λ e. ap Some e) (λ e. cc) (bytes_eq-Decides a b)

abbrev name_of : Option Tag → Option Label → Option Index → Name
name_of tag label index = record { tag = tag; label = label; index = index }

three : {t t' : Option Tag} {l l' : Option Label} {i i' : Option Index} → (t ≡ t') × (l ≡ l') × (i ≡ i') → name_of t l i ≡ name_of t' l' i'
three e = let a = e.0 in let b = e.1 in let c = e.2 in cc

pub name_decides : (a b : Name) → Decides (same_name a b) (bare_name a ≡ bare_name b)
name_decides a b =
    Decides-like (same_name a b)
    (λ (e : (a.tag ≡ b.tag) × ((option_map bare_label a.label ≡ option_map bare_label b.label) × (option_map bare_index a.index ≡ option_map bare_index b.index))). three (e.0, e.1.0, e.1.1))
    (λ e. (ap (λ (n : Name). n.tag) e, (ap (λ (n : Name). n.label) e, ap (λ (n : Name). n.index) e)))
    (Decides-and (same_option same_tag a.tag b.tag) _ (tag_decides a.tag b.tag)
    (Decides-and (same_option same_label a.label b.label) (same_option same_index a.index b.index) (option_decides same_label bare_label label_decides a.label b.label) (option_decides same_index bare_index index_decides a.index b.index)))

-- two heads or slots of different kinds
unlike : {P : Type 0} → (P → ⊥) → Decides false P
unlike never = (λ e. absurd (cc), λ p. absurd (never p))

pub head_decides : (a b : Head) → Decides (same_head a b) (bare_head a ≡ bare_head b)
head_decides Head.Seq Head.Seq = (λ _. refl, λ _. refl)
head_decides Head.Map Head.Map = (λ _. refl, λ _. refl)
head_decides (Head.Record a) (Head.Record b) = Decides-like (same_name a b) (λ e. ap Head.Record e) (λ e. cc) (name_decides a b)
head_decides (Head.Tuple a) (Head.Tuple b) = Decides-like (same_name a b) (λ e. ap Head.Tuple e) (λ e. cc) (name_decides a b)
head_decides (Head.RecordTuple a) (Head.RecordTuple b) = Decides-like (same_name a b) (λ e. ap Head.RecordTuple e) (λ e. cc) (name_decides a b)
head_decides a b = unlike (λ e. cc)

field_same : {t t' : Option Tag} {l l' : Label} → (t ≡ t') × (l ≡ l') → Slot.Field t l ≡ Slot.Field t' l'
field_same e = let a = e.0 in let b = e.1 in cc

place_same : {t t' : Option Tag} {i i' : Index} → (t ≡ t') × (i ≡ i') → Slot.Place t i ≡ Slot.Place t' i'
place_same e = let a = e.0 in let b = e.1 in cc

field_place_same : {t t' : Option Tag} {l l' : Label} {i i' : Index} → (t ≡ t') × ((l ≡ l') × (i ≡ i')) → Slot.FieldPlace t l i ≡ Slot.FieldPlace t' l' i'
field_place_same e = let a = e.0 in let b = e.1.0 in let c = e.1.1 in cc

field_parts : {t t' : Option Tag} {l l' : Label} → Slot.Field t l ≡ Slot.Field t' l' → (t ≡ t') × (l ≡ l')
field_parts e = (cc, cc)

place_parts : {t t' : Option Tag} {i i' : Index} → Slot.Place t i ≡ Slot.Place t' i' → (t ≡ t') × (i ≡ i')
place_parts e = (cc, cc)

field_place_parts : {t t' : Option Tag} {l l' : Label} {i i' : Index} → Slot.FieldPlace t l i ≡ Slot.FieldPlace t' l' i' → (t ≡ t') × ((l ≡ l') × (i ≡ i'))
field_place_parts e = (cc, (cc, cc))

pub slot_decides : (a b : Slot) → Decides (same_slot a b) (bare_slot a ≡ bare_slot b)
slot_decides Slot.Item Slot.Item = (λ _. refl, λ _. refl)
slot_decides Slot.Key Slot.Key = (λ _. refl, λ _. refl)
slot_decides Slot.Value Slot.Value = (λ _. refl, λ _. refl)
slot_decides (Slot.Field t l) (Slot.Field t' l') =
    Decides-like (same_slot (Slot.Field t l) (Slot.Field t' l')) field_same field_parts
    (Decides-and (same_option same_tag t t') (same_label l l') (tag_decides t t') (label_decides l l'))
slot_decides (Slot.Place t i) (Slot.Place t' i') =
    Decides-like (same_slot (Slot.Place t i) (Slot.Place t' i')) place_same place_parts
    (Decides-and (same_option same_tag t t') (same_index i i') (tag_decides t t') (index_decides i i'))
slot_decides (Slot.FieldPlace t l i) (Slot.FieldPlace t' l' i') =
    Decides-like (same_slot (Slot.FieldPlace t l i) (Slot.FieldPlace t' l' i')) field_place_same field_place_parts
    (Decides-and (same_option same_tag t t') (same_label l l' && same_index i i') (tag_decides t t')
    (Decides-and (same_label l l') (same_index i i') (label_decides l l') (index_decides i i')))
slot_decides a b = unlike (λ e. cc)
