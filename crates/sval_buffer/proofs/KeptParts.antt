-- Each step of a forest on the parts of the program, and the calls with names that they speak of.
use Rattle.std.specs.Prelude.{◌≡◌, ℕ, zero, suc, ◌-◌, ◌≤◌, ◌<◌, Bool, false, List, [], ◌∷◌, ◌++◌, length, map, Option, refl, slice_set, slice_get, slice_index_or, slice_range, get_or}
use Rattle.std.proofs.Common.{sym, ap, ◌∙◌, subst, arith, append-nil, length-append}
use Rattle.std.proofs.lemmas.List.{map-append, length-map}
use Rattle.sval_label.specs.Calls.{Call}
use Rattle.sval_buffer.specs.Pushes.{HeldBytes}
use Rattle.sval_buffer.specs.Forest.{Node, Nodes, none, Container, Open, Forest, HoldsNoPart, empty_forest, add, begun, with_flag, close_newest, Becomes}
use Rattle.sval_buffer.specs.Flat as flat
use Rattle.sval_buffer.specs.Flat.{flat_part, flat_node}
use Rattle.sval_buffer.specs.Holders.{holders_node}
use Rattle.sval_buffer.specs.Nested.{outer_of}
use Rattle.sval_buffer.specs.SeenNames.{call_at, Extends}
use Rattle.sval_buffer.specs.SeenStores.{SeenStores, no_stores, Grows}
use Rattle.sval_buffer.specs.SeenHolder.{held_place}
use Rattle.sval_buffer.specs.declared.holder.Holder.{Holder}
use Rattle.sval_buffer.specs.declared.part.Keeping.{Keeping}
use Rattle.sval_buffer.specs.declared.part.Medium.{Medium}
use Rattle.sval_buffer.specs.declared.part.Medium.TheVariants as media
use Rattle.sval_buffer.specs.declared.part.Single.TheVariants as single
use Rattle.sval_buffer.specs.declared.part.Part.{Part}
use Rattle.sval_buffer.specs.declared.part.Part.TheVariants as part
use Rattle.sval_buffer.specs.SeenParts.{SeenPart, flat_part_of, stored_part, seen_part, seen_parts, with_holds, with_length, closed_kind, of_medium, borrowed_bytes, copied_bytes, first_bytes, no_fragments, HoldsBytes, IsStored, IsKept, AllKept, PartsTell, told}
use Rattle.sval_buffer.proofs.KeptNames.{range_more}
use Rattle.sval_buffer.proofs.Steps.{Is, nothing, tells_it, is_nothing, is_added, is_begun, is_flagged, is_closed, closes, place_within, map-set, get-map, newest_is}

-- what is known of an open buffer that is this forest
pub record Holds (s : SeenStores) (parts : List Part) (places : List ℕ) (within : Bool) (f : Forest) : Type 0 where
  pub is : Is (seen_parts s parts) places within f
  pub kept : AllKept s parts

pub tell : {s : SeenStores} {parts : List Part} {places : List ℕ} {within : Bool} {f : Forest} → Holds s parts places within f → PartsTell s parts places within
tell h = record { tells = h.is.invariant; kept = h.kept }

pub holds_it : {s : SeenStores} {parts : List Part} {places : List ℕ} {within : Bool} (f : Forest) → PartsTell s parts places within → told (seen_parts s parts) places within ≡ f → Holds s parts places within f
holds_it f t e = record { is = record { view = e; invariant = t.tells }; kept = t.kept }

-- ---- what parts speak of

pub kept_append : (s : SeenStores) (parts : List Part) (p : Part) → AllKept s parts → IsKept s p → AllKept s (parts ++ (p ∷ []))
kept_append s [] p k h = (h, tt)
kept_append s (first ∷ parts) p k h = (k.0, kept_append s parts p k.1 h)

pub kept_set : (s : SeenStores) (parts : List Part) (i : ℕ) (p : Part) → AllKept s parts → IsKept s p → AllKept s (slice_set parts i p)
kept_set s [] i p k h = tt
kept_set s (first ∷ parts) zero p k h = (h, k.1)
kept_set s (first ∷ parts) (suc i) p k h = (k.0, kept_set s parts i p k.1 h)

pub kept_get : (s : SeenStores) (parts : List Part) (i : ℕ) (d : Part) → AllKept s parts → i < length parts → IsKept s (slice_index_or parts i d)
kept_get s [] i d k h = absurd (omega arith)
kept_get s (p ∷ parts) zero d k h = k.0
kept_get s (p ∷ parts) (suc i) d k h = kept_get s parts i d k.1 (omega arith)

at_front : (calls more : List Call) (i : ℕ) → i < length calls → call_at (calls ++ more) i ≡ call_at calls i
at_front [] more i h = absurd (omega arith)
at_front (call ∷ calls) more zero h = refl
at_front (call ∷ calls) more (suc i) h = at_front calls more i (omega arith)

-- a call at a place, and bytes of the store, stay where the stores grow
call_stays : {s t : SeenStores} (at : ℕ) → Grows s t → at < length s.calls → (at < length t.calls) × (call_at t.calls at ≡ call_at s.calls at)
call_stays {s} {t} at g h =
    let n = ap length g.calls.new_is ∙ length-append s.calls g.calls.more in
    (omega arith, ap (λ cs. call_at cs at) g.calls.new_is ∙ at_front s.calls g.calls.more at h)

range_stays : {s t : SeenStores} (start end : ℕ) → Grows s t → start ≤ end → end ≤ length s.bytes → slice_range t.bytes start end ≡ slice_range s.bytes start end
range_stays {s} {t} start end g h k = ap (λ bytes. slice_range bytes start end) g.bytes ∙ range_more s.bytes g.more start end h k

pub stored_stays : {s t : SeenStores} (medium : Medium) (start end : ℕ) → Grows s t → IsStored s.bytes medium start end
    → IsStored t.bytes medium start end × (slice_range t.bytes start end ≡ slice_range s.bytes start end)
stored_stays {s} {t} medium start end g is =
    let same = range_stays start end g is.order is.within in
    let n = ap length g.bytes ∙ length-append s.bytes g.more in
    (record { order = is.order; within = omega (arith, is.within); suits = rw same is.suits }, same)

-- a part stays what it is where the stores grow
pub part_stays : {s t : SeenStores} (p : Part) → Grows s t → IsKept s p → IsKept t p × (seen_part t p ≡ seen_part s p)
part_stays (part.Single holder single) g k = (tt, refl)
part_stays (part.Wide signed holder number) g k = (tt, refl)
part_stays (part.Named holder at) g k = let (stays, same) = call_stays at g k in (stays, rw same refl)
part_stays (part.Borrowed medium holder bytes) g k = (k, refl)
part_stays (part.Stored medium holder start end) g k = let (stays, same) = stored_stays medium start end g k in (stays, rw same refl)
part_stays (part.Container begin holder size holds) g k = (tt, refl)
part_stays (part.NamedContainer holder at holds) g k = let (stays, same) = call_stays at g k in (stays, rw same refl)

pub parts_stay : {s t : SeenStores} (parts : List Part) → Grows s t → AllKept s parts → AllKept t parts × (seen_parts t parts ≡ seen_parts s parts)
parts_stay [] g k = (tt, refl)
parts_stay (p ∷ parts) g (first, rest) =
    let (stays, same) = part_stays p g first in
    let (others, sames) = parts_stay parts g rest in
    ((stays, others), rw (same, sames) refl)

-- stores that have these calls more, and the same bytes
pub grows_calls : {s t : SeenStores} → Extends s.calls t.calls → t.bytes ≡ s.bytes → Grows s t
grows_calls {s} e same = record { calls = e; more = []; bytes = same ∙ sym (append-nil s.bytes) }

-- ---- the steps

pub holds_nothing : Holds no_stores [] [] false empty_forest
holds_nothing = record { is = is_nothing; kept = tt }

module _ {s : SeenStores} {parts : List Part} {places : List ℕ} {within : Bool} {f : Forest} (h : Holds s parts places within f) where
  pub holds_grown : {t : SeenStores} → Grows s t → Holds t parts places within f
  holds_grown g =
      let (kept, seen) = parts_stay parts g h.kept in
      record { is = subst (λ ps. Is ps places within f) (sym seen) h.is; kept = kept }

  pub holds_flagged : (flag : Bool) → Holds s parts places flag (with_flag flag f)
  holds_flagged flag = record { is = is_flagged flag h.is; kept = h.kept }

  pub holds_added : (p : Part) (node : Node) → flat_node node ≡ flat_part_of (seen_part s p) ∷ [] → ((place : ℕ) (o : Option ℕ) → holders_node place o node ≡ o ∷ [])
      → (seen_part s p).holder ≡ slice_get places (length places - 1) → IsKept s p → Holds s (parts ++ (p ∷ [])) places within (add node f)
  holds_added p node one own held kept = record {
    is = subst (λ ps. Is ps places within (add node f)) (sym (map-append (seen_part s) parts (p ∷ []))) (is_added (seen_part s p) node h.is one own held);
    kept = kept_append s parts p h.kept kept;
  }

  one_text : (medium : Medium) (keeping : Keeping) → flat_node (no_fragments medium keeping) ≡ flat_part (of_medium medium (first_bytes keeping)) 0 ∷ []
  one_text media.Text keeping = refl
  one_text media.Binary keeping = refl

  text_holds : (medium : Medium) (keeping : Keeping) (place : ℕ) (o : Option ℕ) → holders_node place o (no_fragments medium keeping) ≡ o ∷ []
  text_holds media.Text keeping place o = refl
  text_holds media.Binary keeping place o = refl

  -- a text or a binary without fragments
  pub holds_empty : (medium : Medium) (keeping : Keeping) {around : Holder} {p : Part} → HoldsBytes s medium around (first_bytes keeping) p
      → held_place around ≡ slice_get places (length places - 1) → Holds s (parts ++ (p ∷ [])) places within (add (no_fragments medium keeping) f)
  holds_empty medium keeping {around} {p} is held =
      let e : flat_part_of (seen_part s p) ≡ flat_part (of_medium medium (first_bytes keeping)) 0 = rw (is.kind, is.holds) refl in
      holds_added p (no_fragments medium keeping) (one_text medium keeping ∙ ap (λ x. x ∷ []) (sym e)) (text_holds medium keeping) (is.holder ∙ held) is.kept

  pub holds_begun : (p : Part) (begin : Call) (place : ℕ) → flat_part_of (seen_part s p) ≡ flat_part (flat.Holder begin) 0
      → (seen_part s p).holder ≡ slice_get places (length places - 1) → place ≡ length parts → IsKept s p
      → Holds s (parts ++ (p ∷ [])) (places ++ (place ∷ [])) within (begun begin f)
  holds_begun p begin place one held at kept = record {
    is = subst (λ ps. Is ps (places ++ (place ∷ [])) within (begun begin f)) (sym (map-append (seen_part s) parts (p ∷ [])))
        (is_begun (seen_part s p) begin place h.is one held (at ∙ sym (length-map parts (seen_part s))));
    kept = kept_append s parts p h.kept kept;
  }

  pub place_in : (rest : List ℕ) (place : ℕ) → places ≡ rest ++ (place ∷ []) → place < length parts
  place_in rest place e = let lt = place_within rest place h.is e in let n = length-map parts (seen_part s) in omega arith

  -- the part that an end closes
  pub record Closes (rest : List ℕ) (place : ℕ) (p : Part) : Type 0 where
    pub next : Forest
    pub holds : Holds s (slice_set parts place p) rest within next
    pub answers : close_newest f ≡ Becomes next

  kept_closed : (p : Part) (n : ℕ) → IsKept s p → IsKept s (with_holds p n)
  kept_closed (part.Single holder single) n k = tt
  kept_closed (part.Wide signed holder number) n k = tt
  kept_closed (part.Named holder at) n k = k
  kept_closed (part.Borrowed medium holder bytes) n k = k
  kept_closed (part.Stored medium holder start end) n k = k
  kept_closed (part.Container begin holder size holds) n k = tt
  kept_closed (part.NamedContainer holder at holds) n k = k

  text_closed : (medium : Medium) (held : HeldBytes) (n : ℕ) → closed_kind (of_medium medium held) n 0 ≡ 0
  text_closed media.Text held n = refl
  text_closed media.Binary held n = refl

  seen_closed : (p : Part) (n : ℕ) → seen_part s (with_holds p n) ≡ with_length (seen_part s p) n
  seen_closed (part.Single holder single) n = refl
  seen_closed (part.Wide signed holder number) n = refl
  seen_closed (part.Named holder at) n = refl
  seen_closed (part.Borrowed medium holder bytes) n = rw (text_closed medium (borrowed_bytes bytes.now) n) refl
  seen_closed (part.Stored medium holder start end) n = rw (text_closed medium (copied_bytes (slice_range s.bytes start end)) n) refl
  seen_closed (part.Container begin holder size holds) n = refl
  seen_closed (part.NamedContainer holder at holds) n = refl

  pub holds_closed : (rest : List ℕ) (place : ℕ) (d p : Part) → places ≡ rest ++ (place ∷ [])
      → p ≡ with_holds (slice_index_or parts place d) (length parts - place - 1)
      → Closes rest place p
  holds_closed rest place d p e same =
      let lt = place_in rest place e in
      let seen = seen_parts s parts in
      let old = slice_index_or parts place d in
      let size = length-map parts (seen_part s) in
      let q = seen_part s p in
      let e_old = get-map (seen_part s) parts place d lt (seen_part s d) in
      let now : q ≡ (let was = slice_index_or seen place (seen_part s d) in with_length was (length seen - place - 1)) =
      ap (seen_part s) same ∙ seen_closed old (length parts - place - 1)
      ∙ ap (λ n. with_length (seen_part s old) (n - place - 1)) (sym size)
      ∙ ap (λ (was : SeenPart). with_length was (length seen - place - 1)) (sym e_old) in
      let n = newest_is rest place h.is e in
      let next : Forest = add (Container n.newest.begin n.newest.nodes) (record { nodes = f.nodes; spine = n.older; in_fragments = f.in_fragments }) in
      record {
        next = next;
        holds = record {
          is = subst (λ (ps : List SeenPart). Is ps rest within next) (sym (map-set (seen_part s) parts place p)) (is_closed rest place (seen_part s d) q h.is e now);
          kept = kept_set s parts place p h.kept (subst (IsKept s) (sym same) (kept_closed old (length parts - place - 1) (kept_get s parts place d h.kept lt)));
        };
        answers = closes rest place (seen_part s d) q h.is e now;
      }

-- ---- a part at a place

-- the part at a place, or any part where there is none
abbrev any_part : Part
any_part = part.Single (record { after = 0 }) single.Null

abbrev pub part_at : List Part → ℕ → Part
part_at parts i = slice_index_or parts i any_part

pub is_at : (parts : List Part) (i : ℕ) → i < length parts → part_at parts i ≡ get_or parts i (part_at parts i)
is_at [] i h = absurd (omega arith)
is_at (p ∷ parts) zero h = refl
is_at (p ∷ parts) (suc i) h = is_at parts i (omega arith)

pub seen_at : (s : SeenStores) (parts : List Part) (i : ℕ) (p : Part) → i < length parts → p ≡ get_or parts i p → seen_part s p ≡ get_or (seen_parts s parts) i (seen_part s p)
seen_at s [] i p h e = absurd (omega arith)
seen_at s (q ∷ parts) zero p h e = ap (seen_part s) e
seen_at s (q ∷ parts) (suc i) p h e = seen_at s parts i p (omega arith) e

pub kept_at : (s : SeenStores) (parts : List Part) (i : ℕ) (p : Part) → AllKept s parts → i < length parts → p ≡ get_or parts i p → IsKept s p
kept_at s [] i p k h e = absurd (omega arith)
kept_at s (q ∷ parts) zero p k h e = subst (IsKept s) (sym e) k.0
kept_at s (q ∷ parts) (suc i) p k h e = kept_at s parts i p k.1 (omega arith) e

-- each part as the flat list has it, in one step and in two
flat_again : (s : SeenStores) (parts : List Part) → map (stored_part s) parts ≡ map flat_part_of (seen_parts s parts)
flat_again s [] = refl
flat_again s (p ∷ parts) = ap (λ xs. stored_part s p ∷ xs) (flat_again s parts)

-- the place of the container around a part, by both
pub outer_again : {o h place : Option ℕ} (s : SeenStores) (parts : List Part) → o ≡ outer_of (map (stored_part s) parts) h → h ≡ place → o ≡ outer_of (map flat_part_of (seen_parts s parts)) place
outer_again {h = h} s parts outer held = outer ∙ ap (λ xs. outer_of xs h) (flat_again s parts) ∙ ap (outer_of (map flat_part_of (seen_parts s parts))) held

pub seen_length : (s : SeenStores) (parts : List Part) → length (seen_parts s parts) ≡ length parts
seen_length s parts = length-map parts (seen_part s)

-- ---- a buffer without a part

no_flat : (nodes : Nodes) (spine : List Open) → nodes ≡ none → spine ≡ [] → flat.flat_row nodes ++ flat.flat_spine spine ≡ []
no_flat nodes spine e k = rw (e, k) refl

-- a forest without a part is kept by no part
pub no_part_kept : {s : SeenStores} {parts : List Part} {places : List ℕ} {within : Bool} {f : Forest} → Holds s parts places within f → HoldsNoPart f → parts ≡ []
no_part_kept {s} {parts} {f = f} h bare =
    let e : map flat_part_of (seen_parts s parts) ≡ [] = (tells_it h.is).parts_are ∙ no_flat f.nodes f.spine bare.no_nodes bare.no_spine in
    let n : length (map flat_part_of (seen_parts s parts)) ≡ 0 = ap (λ xs. length xs) e in
    nothing parts (omega (arith, n, length-map (seen_parts s parts) flat_part_of, length-map parts (seen_part s)))
