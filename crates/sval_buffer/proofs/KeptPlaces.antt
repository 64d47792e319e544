-- The places of the containers without an end, as what holds each part tells them.
use Rattle.std.specs.Prelude.{◌≡◌, ℕ, zero, suc, ◌+◌, ◌-◌, ◌≤◌, ◌<◌, Bool, true, false, List, [], ◌∷◌, ◌++◌, length, map, Option, Some, None, is_some, refl, slice_get, slice_set, slice_index_or}
use Rattle.std.proofs.Common.{sym, ap, ◌∙◌, subst, arith, append-nil, length-append}
use Rattle.std.proofs.lemmas.List.{length-map}
use mathlib.Core.List.{append_assoc}
use Rattle.sval_label.specs.Calls.{Call}
use Rattle.sval_buffer.specs.Forest.{Node, Single, Text, Binary, Container, Nodes, none, ◌and◌, Open, Forest, add, begun, close_newest, Becomes}
use Rattle.sval_buffer.specs.Flat as flat
use Rattle.sval_buffer.specs.Flat.{flat_part, flat_node, flat_row, flat_spine}
use Rattle.sval_buffer.specs.FlatForest.{FlatForest, open_places}
use Rattle.sval_buffer.specs.Holders.{holders, holders_node, holders_row, holders_spine, newest_place}
use Rattle.sval_buffer.specs.SeenHolder.{held_place}
use Rattle.sval_buffer.specs.SeenStores.{SeenStores, Grows}
use Rattle.sval_buffer.specs.declared.holder.Holder.{Holder}
use Rattle.sval_buffer.specs.declared.part.Keeping.{Keeping}
use Rattle.sval_buffer.specs.declared.part.Medium.{Medium}
use Rattle.sval_buffer.specs.declared.part.Part.{Part}
use Rattle.sval_buffer.specs.SeenParts.{SeenPart, flat_part_of, holder, seen_part, seen_parts, holder_of, with_holds, first_bytes, no_fragments, HoldsBytes, IsKept, holder_at, places_within, places_around}
use Rattle.sval_buffer.proofs.Steps.{tells_it, last-place, seam, length-parts}
use Rattle.sval_buffer.proofs.KeptParts.{Holds, holds_grown, holds_added, holds_empty, holds_begun, place_in, holds_closed, seen_length}

-- ---- what holds the newest container is the next older one

mutual
  length-node : (place : ℕ) (o : Option ℕ) (node : Node) → length (holders_node place o node) ≡ length (flat_node node)
  length-node place o (Single call) = refl
  length-node place o (Text held) = refl
  length-node place o (Binary held) = refl
  length-node place o (Container begin nodes) = ap suc (length-row (place + 1) (Some place) nodes)

  length-row : (place : ℕ) (o : Option ℕ) (nodes : Nodes) → length (holders_row place o nodes) ≡ length (flat_row nodes)
  length-row place o none = refl
  length-row place o (nodes and node) =
      let front = holders_row place o nodes in
      let last = holders_node (place + length (flat_row nodes)) o node in
      let n = length-row place o nodes in
      let m = length-node (place + length (flat_row nodes)) o node in
      omega (arith, n, m, length-append front last, length-append (flat_row nodes) (flat_node node))

length-spine : (nodes : Nodes) (spine : List Open) → length (holders_spine nodes spine) ≡ length (flat_row nodes ++ flat_spine spine)
length-spine nodes [] = let n = length-row 0 None nodes in omega (arith, n, length-append (flat_row nodes) [])
length-spine nodes (newest ∷ older) =
    let place = length (flat_row nodes ++ flat_spine older) in
    let own = flat_part (flat.Holder newest.begin) 0 ∷ flat_row newest.nodes in
    let inner = newest_place nodes older ∷ holders_row (place + 1) (Some place) newest.nodes in
    let n = length-spine nodes older in
    let m = length-row (place + 1) (Some place) newest.nodes in
    let e = ap (λ xs. length xs) (append_assoc (flat_row nodes) (flat_spine older) own) in
    omega (arith, n, m, e, length-append (holders_spine nodes older) inner, length-append (flat_row nodes ++ flat_spine older) own)

-- the holder that stands behind others
holder-behind : (parts : List SeenPart) (front : List (Option ℕ)) (o : Option ℕ) (rest : List (Option ℕ)) → map holder parts ≡ front ++ (o ∷ rest) → holder_at parts (length front) ≡ o
holder-behind [] [] o rest e = cc e
holder-behind [] (x ∷ front) o rest e = cc e
holder-behind (p ∷ parts) [] o rest e = cc e
holder-behind (p ∷ parts) (x ∷ front) o rest e = let tail : map holder parts ≡ front ++ (o ∷ rest) = cc e in holder-behind parts front o rest tail

-- the places that the holders tell are those of the containers without an end
follow : (nodes : Nodes) (spine : List Open) (parts : List SeenPart) (rest : List (Option ℕ)) (most : ℕ) → map holder parts ≡ holders_spine nodes spine ++ rest → length spine ≤ most
    → places_within most parts (newest_place nodes spine) ≡ open_places nodes spine
follow nodes [] parts rest zero e h = refl
follow nodes [] parts rest (suc most) e h = refl
follow nodes (newest ∷ older) parts rest zero e h = absurd (omega arith)
follow nodes (newest ∷ older) parts rest (suc most) e h =
    let place = length (flat_row nodes ++ flat_spine older) in
    let own = newest_place nodes older ∷ holders_row (place + 1) (Some place) newest.nodes in
    let whole = e ∙ append_assoc (holders_spine nodes older) own rest in
    let around : holder_at parts place ≡ newest_place nodes older =
    ap (holder_at parts) (sym (length-spine nodes older)) ∙ holder-behind parts (holders_spine nodes older) (newest_place nodes older) (holders_row (place + 1) (Some place) newest.nodes ++ rest) whole in
    ap (λ qs. qs ++ (place ∷ [])) (ap (places_within most parts) around ∙ follow nodes older parts (own ++ rest) most whole (omega arith))

open-length : (nodes : Nodes) (spine : List Open) → length spine ≤ length (flat_row nodes ++ flat_spine spine)
open-length nodes [] = omega arith
open-length nodes (newest ∷ older) =
    let own = flat_part (flat.Holder newest.begin) 0 ∷ flat_row newest.nodes in
    let n = open-length nodes older in
    let e = ap (λ xs. length xs) (append_assoc (flat_row nodes) (flat_spine older) own) in
    omega (arith, n, e, length-append (flat_row nodes ++ flat_spine older) own)

-- ---- the last of the places is the newest

last-append : (xs : List ℕ) (y : ℕ) → let ys = xs ++ (y ∷ []) in Some y ≡ slice_get ys (length ys - 1)
last-append xs y =
    let e : length (xs ++ (y ∷ [])) - 1 ≡ length xs = omega (arith, length-append xs (y ∷ [])) in
    sym (ap (slice_get (xs ++ (y ∷ []))) e ∙ seam xs y)

last-within : (most : ℕ) (parts : List SeenPart) (o : Option ℕ) → 0 < most → let places = places_within most parts o in o ≡ slice_get places (length places - 1)
last-within zero parts o h = absurd (omega arith)
last-within (suc most) parts None h = refl
last-within (suc most) parts (Some place) h = last-append (places_within most parts (holder_at parts place)) place

last-around : (parts : List SeenPart) (o : Option ℕ) → let places = places_around parts o in o ≡ slice_get places (length places - 1)
last-around parts o = last-within (suc (length parts)) parts o (omega arith)

-- where there is a newest one there are places, and else none
pub some_around : (parts : List SeenPart) (o : Option ℕ) → is_some o ≡ true → 0 < length (places_around parts o)
some_around parts None e = cc e
some_around parts (Some place) e = omega (arith, length-append (places_within (length parts) parts (holder_at parts place)) (place ∷ []))

pub none_around : (parts : List SeenPart) (o : Option ℕ) → is_some o ≡ false → length (places_around parts o) ≡ 0
none_around parts None e = refl
none_around parts (Some place) e = cc e

-- ---- the steps

-- what is known of an open buffer, by its newest container without an end
abbrev pub HoldsAround : SeenStores → List Part → Option ℕ → Bool → Forest → Type 0
HoldsAround s parts newest within f = Holds s parts (places_around (seen_parts s parts) newest) within f

-- the places of a forest are those that its parts tell, from the newest on
from_newest : {s : SeenStores} {parts : List Part} {places : List ℕ} {within : Bool} {f : Forest} (newest : Option ℕ) → Holds s parts places within f
    → newest ≡ slice_get places (length places - 1) → HoldsAround s parts newest within f
from_newest {s} {parts} {places} {within} {f} newest h e =
    let t = tells_it h.is in
    let seen = seen_parts s parts in
    let is_newest : newest ≡ newest_place f.nodes f.spine = e ∙ ap (λ (qs : List ℕ). slice_get qs (length qs - 1)) t.places_are ∙ last-place f.nodes f.spine in
    let enough : length f.spine ≤ suc (length seen) = omega (arith, open-length f.nodes f.spine, length-parts h.is) in
    let same : places_around seen newest ≡ places =
    ap (places_around seen) is_newest ∙ follow f.nodes f.spine seen [] (suc (length seen)) (t.holders_are ∙ sym (append-nil (holders f))) enough ∙ sym t.places_are in
    subst (λ qs. Holds s parts qs within f) (sym same) h

holder-seen : (s : SeenStores) (parts : List Part) (i : ℕ) (d : Part) → i < length parts → holder_at (seen_parts s parts) i ≡ holder_of (slice_index_or parts i d)
holder-seen s [] i d h = absurd (omega arith)
holder-seen s (p ∷ parts) zero d h = refl
holder-seen s (p ∷ parts) (suc i) d h = holder-seen s parts i d (omega arith)

-- the same container is the newest, of parts and places that stand for the next forest
pub still_newest : (s : SeenStores) (parts : List Part) {t : SeenStores} {next : List Part} {flag : Bool} {g : Forest} (newest : Option ℕ) → Holds t next (places_around (seen_parts s parts) newest) flag g
    → HoldsAround t next newest flag g
still_newest s parts newest h = from_newest newest h (last-around (seen_parts s parts) newest)

module _ {s : SeenStores} {parts : List Part} {within : Bool} {f : Forest} (newest : Option ℕ) (h : HoldsAround s parts newest within f) where
  pub grown_around : {t : SeenStores} → Grows s t → HoldsAround t parts newest within f
  grown_around g = from_newest newest (holds_grown h g) (last-around (seen_parts s parts) newest)

  pub added_around : (p : Part) (node : Node) → flat_node node ≡ flat_part_of (seen_part s p) ∷ [] → ((place : ℕ) (o : Option ℕ) → holders_node place o node ≡ o ∷ [])
      → holder_of p ≡ newest → IsKept s p → HoldsAround s (parts ++ (p ∷ [])) newest within (add node f)
  added_around p node one own held kept =
      let last = last-around (seen_parts s parts) newest in from_newest newest (holds_added h p node one own (held ∙ last) kept) last

  -- a text or a binary without fragments
  pub empty_around : (medium : Medium) (keeping : Keeping) {around : Holder} {p : Part} → HoldsBytes s medium around (first_bytes keeping) p
      → held_place around ≡ newest → HoldsAround s (parts ++ (p ∷ [])) newest within (add (no_fragments medium keeping) f)
  empty_around medium keeping is held =
      let last = last-around (seen_parts s parts) newest in from_newest newest (holds_empty h medium keeping is (held ∙ last)) last

  -- a container that begins is the newest
  pub begun_around : (p : Part) (begin : Call) (place : Option ℕ) → flat_part_of (seen_part s p) ≡ flat_part (flat.Holder begin) 0
      → holder_of p ≡ newest → place ≡ Some (length parts) → IsKept s p → HoldsAround s (parts ++ (p ∷ [])) place within (begun begin f)
  begun_around p begin place one held at kept =
      let places = places_around (seen_parts s parts) newest in
      from_newest place (holds_begun h p begin (length parts) one (held ∙ last-around (seen_parts s parts) newest) refl kept) (at ∙ last-append places (length parts))

  -- the places but the newest
  abbrev older : ℕ → List ℕ
  older place = let seen = seen_parts s parts in places_within (length seen) seen (holder_at seen place)

  split-places : (place : ℕ) → newest ≡ Some place → places_around (seen_parts s parts) newest ≡ older place ++ (place ∷ [])
  split-places place e = ap (places_around (seen_parts s parts)) e

  -- the newest container is a part
  pub newest_in : (place : ℕ) → newest ≡ Some place → place < length parts
  newest_in place e = place_in h (older place) place (split-places place e)

  -- the part that an end closes: the container around it is the newest then
  pub record ClosesNewest (place : ℕ) (p : Part) (around : Option ℕ) : Type 0 where
    pub next : Forest
    pub holds : HoldsAround s (slice_set parts place p) around within next
    pub answers : close_newest f ≡ Becomes next

  pub closed_around : (place : ℕ) (d p : Part) (around : Option ℕ) → newest ≡ Some place
      → p ≡ with_holds (slice_index_or parts place d) (length parts - place - 1) → around ≡ holder_of (slice_index_or parts place d)
      → ClosesNewest place p around
  closed_around place d p around e same held =
      let seen = seen_parts s parts in
      let lt = newest_in place e in
      let some : 0 < length seen = omega (arith, seen_length s parts) in
      let closes = holds_closed h (older place) place d p (split-places place e) same in
      record {
        next = closes.next;
        holds = from_newest around closes.holds (held ∙ sym (holder-seen s parts place d lt) ∙ last-within (length seen) seen (holder_at seen place) some);
        answers = closes.answers;
      }

-- the place of a container that begins, by the parts as the forest has them
pub place_now : (s : SeenStores) (parts : List Part) {places : List ℕ} {within : Bool} {now : FlatForest} {o : Option ℕ} → o ≡ Some (length now.parts)
    → record { parts = map flat_part_of (seen_parts s parts); places = places; in_fragments = within } ≡ now → o ≡ Some (length parts)
place_now s parts e same =
    let n = length-map (seen_parts s parts) flat_part_of ∙ seen_length s parts in
    e ∙ ap (λ (view : FlatForest). Some (length view.parts)) (sym same) ∙ ap Some n
