-- What is open, step by step, is completed by the same rests.
use Rattle.std.specs.Prelude.{◌≡◌, ℕ, zero, suc, ◌<◌, ◌≤◌, Bool, true, false, ◌==◌, if◌then◌else◌, List, [], ◌∷◌, length, drop, Option, Some, None, refl}
use Rattle.std.proofs.Common.{sym, ap, ◌∙◌, subst, arith}
use Rattle.sval_cbor_read.specs.declared.part.NextPart.TheVariants.{Another, End, Nothing}
use Rattle.sval_cbor_read.specs.declared.stack.Frame as made_frame
use Rattle.sval_cbor_read.specs.declared.stack.Frame.TheVariants as frame
use Rattle.sval_cbor_read.specs.declared.well_formed.Behind.{Behind}
use Rattle.sval_cbor_read.specs.declared.well_formed.Behind.TheVariants as behind
use Rattle.sval_cbor_read.specs.declared.well_formed.Front.TheVariants as front
use Rattle.sval_cbor_read.specs.declared.well_formed.InFrame.TheVariants as inside
use Rattle.sval_cbor_read.specs.Reading.{OpenItem, Items, Values, Item, Ended, Move, moves, part_or_end}
use Rattle.sval_cbor_read.specs.SeenFrames.{frame_of, TopFrameIs, around_frame, changed}
use Rattle.sval_cbor_read.specs.SeenParts.{Follows}
use Rattle.sval_cbor_read.specs.SeenWellFormed.{SameRests, HasNoRest, Finishes, ItemFinishes, Completes, ItemCompletes, FrontIs, IsNextIn, ComesBehind, IsDueAt, GoesOn}
use Rattle.sval_cbor_read.specs.WellFormed.{IsWellFormed, headed, HasItems, items_came, items_end_with_break, item_of, item_before_break, HasPairs, pairs_came, pairs_end_with_break, pair_of, pair_before_break, HoldsItems}
use Rattle.sval_cbor_read.proofs.HeadsGo.{with_part, PartsEnd, all_came, broken, parts_end, part_goes_on}
use Rattle.sval_cbor_read.proofs.Strings.{no_head}
use Rattle.sval_cbor_read.proofs.WellFormed.{one_rest, no_break_is_well_formed}

same_after : {first second third : List ℕ → Type 0} → SameRests first second → SameRests second third → SameRests first third
same_after s t = record { there = λ rest p. t.there rest (s.there rest p); back = λ rest p. s.back rest (t.back rest p) }

none_after : {first second : List ℕ → Type 0} → SameRests first second → HasNoRest second → HasNoRest first
none_after s n rest p = n rest (s.there rest p)

-- ---- the next part

no_items_more : {bytes rest : List ℕ} → HasItems (Some zero) bytes rest → bytes ≡ rest
no_items_more items_came = refl

no_pairs_more : {bytes rest : List ℕ} → HasPairs (Some zero) bytes rest → bytes ≡ rest
no_pairs_more pairs_came = refl

items_broken : {bytes rest : List ℕ} → HasItems None (255 ∷ bytes) rest → bytes ≡ rest
items_broken items_end_with_break = refl
items_broken (item_before_break i p) = absurd (no_break_is_well_formed i)

pairs_broken : {bytes rest : List ℕ} → HasPairs None (255 ∷ bytes) rest → bytes ≡ rest
pairs_broken pairs_end_with_break = refl
pairs_broken (pair_before_break k v p) = absurd (no_break_is_well_formed k)

items_end : {left : Option ℕ} {here there : List ℕ} → PartsEnd left here there → SameRests (HasItems left here) (λ rest. there ≡ rest)
items_end (all_came {here = here}) = record { there = λ rest p. no_items_more p; back = λ rest e. subst (HasItems (Some zero) here) e items_came }
items_end (broken {left = left}) = record { there = λ rest p. items_broken p; back = λ rest e. subst (HasItems None (255 ∷ left)) e items_end_with_break }

pairs_end : {left : Option ℕ} {here there : List ℕ} → PartsEnd left here there → SameRests (HasPairs left here) (λ rest. there ≡ rest)
pairs_end (all_came {here = here}) = record { there = λ rest p. no_pairs_more p; back = λ rest e. subst (HasPairs (Some zero) here) e pairs_came }
pairs_end (broken {left = left}) = record { there = λ rest p. pairs_broken p; back = λ rest e. subst (HasPairs None (255 ∷ left)) e pairs_end_with_break }

-- no break begins the bytes
abbrev NoBreak : List ℕ → Type 0
NoBreak bytes = (left : List ℕ) → bytes ≡ 255 ∷ left → ⊥

first_item : {n : ℕ} {bytes rest : List ℕ} → HasItems (Some (suc n)) bytes rest → ItemFinishes (Items (Some n)) bytes rest
first_item (item_of i p) = (_, i, p)

first_item_before : {bytes rest : List ℕ} → NoBreak bytes → HasItems None bytes rest → ItemFinishes (Items None) bytes rest
first_item_before n items_end_with_break = absurd (n _ refl)
first_item_before n (item_before_break i p) = (_, i, p)

first_pair : {n : ℕ} {bytes rest : List ℕ} → HasPairs (Some (suc n)) bytes rest → ItemFinishes (Values (Some n)) bytes rest
first_pair (pair_of k v p) = (_, k, (_, v, p))

first_pair_before : {bytes rest : List ℕ} → NoBreak bytes → HasPairs None bytes rest → ItemFinishes (Values None) bytes rest
first_pair_before n pairs_end_with_break = absurd (n _ refl)
first_pair_before n (pair_before_break k v p) = (_, k, (_, v, p))

items_go_on : (more : Option ℕ) (bytes : List ℕ) → (more ≡ None → NoBreak bytes) → SameRests (HasItems (with_part more) bytes) (ItemFinishes (Items more) bytes)
items_go_on None bytes n = record { there = λ rest p. first_item_before (n refl) p; back = λ rest (after, i, p). item_before_break i p }
items_go_on (Some m) bytes n = record { there = λ rest p. first_item p; back = λ rest (after, i, p). item_of i p }

pairs_go_on : (more : Option ℕ) (bytes : List ℕ) → (more ≡ None → NoBreak bytes) → SameRests (HasPairs (with_part more) bytes) (ItemFinishes (Values more) bytes)
pairs_go_on None bytes n = record { there = λ rest p. first_pair_before (n refl) p; back = λ rest (between, k, (after, v, p)). pair_before_break k v p }
pairs_go_on (Some m) bytes n = record { there = λ rest p. first_pair p; back = λ rest (between, k, (after, v, p)). pair_of k v p }

no_break_here : (left : Option ℕ) (here : List ℕ)
    → ((ends : Option Move) (part : Option ℕ → Option Move) (broken : List ℕ → Option Move) → part_or_end left here ends part broken ≡ part None) → left ≡ None → NoBreak here
no_break_here left here f e rest b =
    let g : part_or_end None (255 ∷ rest) None (λ more. moves [] [] (Ended [])) (λ x. None) ≡ moves [] [] (Ended []) = rw (e, b) at (f None (λ more. moves [] [] (Ended [])) (λ x. None)) in
    cc g

goes_unbroken : (left more : Option ℕ) (bytes : List ℕ) (at : ℕ) → Follows left bytes at (Another more) → more ≡ None → NoBreak (drop at bytes)
goes_unbroken left more bytes at f e =
    no_break_here left (drop at bytes) (λ ends part broken. f ends part broken ∙ ap part e) (part_goes_on left bytes at more f ∙ ap with_part e)

nothing_here : (left : Option ℕ) (here : List ℕ)
    → ((ends : Option Move) (part : Option ℕ → Option Move) (broken : List ℕ → Option Move) → part_or_end left here ends part broken ≡ None) → (left ≡ None) × (here ≡ [])
nothing_here (Some zero) here f = absurd (cc (f (moves [] [] (Ended [])) (λ more. None) (λ x. None)))
nothing_here (Some (suc n)) here f = absurd (cc (f None (λ more. moves [] [] (Ended [])) (λ x. None)))
nothing_here None [] f = (refl, refl)
nothing_here None (first ∷ rest) f = go (first == 0xff) (f None (λ more. moves [] [] (Ended [])) (λ x. moves [] [] (Ended [])))
  where
    go : (b : Bool) → (if b then moves [] [] (Ended []) else moves [] [] (Ended [])) ≡ None → ((let o : Option ℕ = None in o) ≡ None) × ((first ∷ rest) ≡ [])
    go true e = absurd (cc e)
    go false e = absurd (cc e)

no_items_in_nothing : {rest : List ℕ} → HasItems None [] rest → ⊥
no_items_in_nothing (item_before_break (headed e c) p) = no_head e

no_pairs_in_nothing : {rest : List ℕ} → HasPairs None [] rest → ⊥
no_pairs_in_nothing (pair_before_break (headed e c) v p) = no_head e

module _ (left : Option ℕ) (bytes : List ℕ) (at : ℕ) where
  pub item_is_next : (more : Option ℕ) → Follows left bytes at (Another more) → IsNextIn (frame.Items left) bytes at (inside.Item (frame.Items more))
  item_is_next more f =
      subst (λ x. SameRests (HasItems x (drop at bytes)) (ItemFinishes (Items more) (drop at bytes))) (sym (part_goes_on left bytes at more f))
      (items_go_on more (drop at bytes) (goes_unbroken left more bytes at f))

  pub key_is_next : (more : Option ℕ) → Follows left bytes at (Another more) → IsNextIn (frame.Keys left) bytes at (inside.Item (frame.Values more))
  key_is_next more f =
      subst (λ x. SameRests (HasPairs x (drop at bytes)) (ItemFinishes (Values more) (drop at bytes))) (sym (part_goes_on left bytes at more f))
      (pairs_go_on more (drop at bytes) (goes_unbroken left more bytes at f))

  pub items_end_next : (next : ℕ) → Follows left bytes at (End next) → IsNextIn (frame.Items left) bytes at (inside.End next)
  items_end_next next f = (items_end (parts_end left bytes at next f), f.1, f.2)

  pub pairs_end_next : (next : ℕ) → Follows left bytes at (End next) → IsNextIn (frame.Keys left) bytes at (inside.End next)
  pairs_end_next next f = (pairs_end (parts_end left bytes at next f), f.1, f.2)

  pub no_item_next : Follows left bytes at Nothing → IsNextIn (frame.Items left) bytes at inside.Nothing
  no_item_next f rest p =
      let (e, g) = nothing_here left (drop at bytes) f in
      let q : HasItems None [] rest = rw (e, g) at p in no_items_in_nothing q

  pub no_pair_next : Follows left bytes at Nothing → IsNextIn (frame.Keys left) bytes at inside.Nothing
  no_pair_next f rest p =
      let (e, g) = nothing_here left (drop at bytes) f in
      let q : HasPairs None [] rest = rw (e, g) at p in no_pairs_in_nothing q

-- ---- behind an item

-- what was open where an item ended, up to another place
pub record IsClosedUpTo (bytes : List ℕ) (old : List OpenItem) (from : ℕ) (frames : List OpenItem) (at : ℕ) : Type 0 where
  pub same : SameRests (Completes old (drop from bytes)) (Completes frames (drop at bytes))
  pub before : from ≤ at
  pub within : at ≤ length bytes
  pub none : old ≡ [] → frames ≡ []

-- ---- the whole

module _ {bytes : List ℕ} {frames : List OpenItem} {at : ℕ} (d : IsDueAt bytes frames at) where
  -- where memory is taken
  pub holds_by : HoldsItems (drop at bytes) → HoldsItems bytes
  holds_by h = go frames d.first d.holds
    where
      go : (all : List OpenItem) → (all ≡ [] → HoldsItems (drop at bytes) → HoldsItems bytes) → ((all ≡ [] → ⊥) → HoldsItems bytes) → HoldsItems bytes
      go [] f g = f refl h
      go (top ∷ outer) f g = g (λ e. cc e)

  -- behind what is whole, or open
  goes_behind : (old new : List OpenItem) (from : ℕ) (found : Behind) → SameRests (ItemCompletes frames (drop at bytes)) (Completes old (drop from bytes)) → at < from
      → ((old ≡ [] → ⊥) → HoldsItems bytes) → ComesBehind bytes old from new found → GoesOn bytes at new found
  goes_behind old new from (behind.Item next) s l h (t, b, w, n) =
      let holds = h n in (
        record { same = same_after d.same (same_after s t); within = w; first = λ e k. holds; holds = λ k. holds },
        omega arith,
      )
  goes_behind old new from (behind.End next) s l h (t, b, w) =
      let same = same_after d.same (same_after s t) in (same.back (drop next bytes) refl, w)
  goes_behind old new from behind.Nothing s l h n = none_after (same_after d.same s) n

  pub whole_goes : (next : ℕ) (new : List OpenItem) (found : Behind) → FrontIs bytes at (Some (front.Whole next)) → ComesBehind bytes frames next new found → GoesOn bytes at new found
  whole_goes next new found (i, further) c =
      let s : SameRests (ItemCompletes frames (drop at bytes)) (Completes frames (drop next bytes)) = record {
        there = λ rest (mid, w, c). subst (λ x. Completes frames x rest) (one_rest w i) c;
        back = λ rest c. (drop next bytes, i, c);
      } in
      goes_behind frames new next found s further.later d.holds c

  pub opened_goes : (top : made_frame.Frame) (next : ℕ) (old new : List OpenItem) (found : Behind) → FrontIs bytes at (Some (front.Opens top next)) → old ≡ frame_of top ∷ frames
      → ComesBehind bytes old next new found → GoesOn bytes at new found
  opened_goes top next old new found (s, further, h) e c =
      let t : SameRests (ItemCompletes frames (drop at bytes)) (Completes (frame_of top ∷ frames) (drop next bytes)) = record {
        there = λ rest (mid, w, c). (mid, s.there mid w, c);
        back = λ rest (mid, f, c). (mid, s.back mid f, c);
      } in
      goes_behind old new next found (rw e t) further.later (λ n. holds_by h) c
