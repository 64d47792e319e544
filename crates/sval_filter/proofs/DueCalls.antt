-- The calls that a filter passes on of calls that spell a tree spell what is left of the tree.
use Rattle.std.specs.Prelude.{◌≡◌, ℕ, false, List, [], ◌∷◌, ◌++◌, map, length, Option, refl}
use Rattle.std.specs.List.{concat}
use Rattle.std.proofs.Common.{sym, ap, ◌∙◌, subst, append-nil}
use Rattle.sval_label.specs.Calls.{Call, Head, Slot}
use Rattle.sval_core.specs.Trees as tree
use Rattle.sval_core.specs.Trees.{Tree, Tagged, Enum, Container, Parts, none, part, AreInOrder, IsGood, AreGood}
use Rattle.sval_core.specs.Spells.{Says, SayParts, Spells, IsSize, entries, plain, bare_name, bare_head, bare_slot}
use Rattle.sval_core.proofs.ManySpellings.{says_before, parts_before}
use Rattle.sval_buffer.specs.Forest.{empty_forest}
use Rattle.sval_filter.specs.Paths.{Path, Rule, Fate, LeftOut, Stays, Within}
use Rattle.sval_filter.specs.Pruned.{pruned, placed, key_label}
use Rattle.sval_filter.specs.Filtering.{with_entry, Mode, Holding, By, Layer, layer, mode_in, entry_in, fate_in, slot_fate, mode_of_part, passed, without_size, layers_after, fresh, all_due}
use Rattle.sval_filter.proofs.PrunedGood.{pruned_good}
use Rattle.sval_filter.proofs.PartByPart.{key_fate}
use Rattle.sval_filter.proofs.Turns.{Passing, stays, within, is_part, Crossing, steps, no_step, step_of, step_to, turn, hints_passed, plain_append}
use Rattle.sval_filter.proofs.PartSteps.{begin_step, end_step, skip_step, key_step, PassesKey}
use Rattle.sval_filter.proofs.PrunedParts.{by, parts_by, by_leaf, by_tagged, by_enum, by_container, by_none, size_passed, key_said, PassesPart, part_said}

-- a layer in which this becomes of the entry whose key came last
abbrev row : Mode → Fate → Layer
row mode entry = record { mode = mode; entry = entry }

module _ (rule : Rule) (paths : List Path) where
  -- calls are passed on that spell what is left of a tree
  abbrev PassesTree : Fate → List Layer → Tree → List Call → List Call → Type 0
  PassesTree fate ls t calls after = Crossing rule paths ls ls calls (λ x. Says (by rule fate t) x []) after

  -- ---- trees of one call

  leaf_step : (fate : Fate) (ls : List Layer) (t : Tree) (p : Call) (calls after : List Call) → Passing fate → mode_in paths ls ≡ By fate → is_part p ≡ false
      → layers_after (By fate) ls p ≡ ls → without_size p ≡ p → by rule fate t ≡ t → Says t (p ∷ []) [] → calls ≡ p ∷ after → PassesTree fate ls t calls after
  leaf_step fate ls t p calls after passes is other same_layers plainly same s e =
      step_of rule paths ls ls calls (p ∷ after) after (λ x. Says (by rule fate t) x []) e
      (step_to rule paths ls ls (p ∷ after) after (λ x. x ≡ without_size p ∷ []) (λ x. Says (by rule fate t) x [])
      (subst (λ x. Crossing rule paths ls x (p ∷ after) (λ y. y ≡ without_size p ∷ []) after) same_layers (turn rule paths fate passes ls is p other after))
      (λ x h. subst (λ y. Says (by rule fate t) y []) (sym (h ∙ ap (λ y. y ∷ []) plainly)) (subst (λ y. Says y (p ∷ []) []) (sym same) s)))

  -- ---- a begin, what is in it, and an end

  around_step : (fate : Fate) (ls : List Layer) (begin end : Call) (calls inner after : List Call) (P R : List Call → Type 0) (from to : Layer) → Passing fate → mode_in paths ls ≡ By fate
      → is_part begin ≡ false → layers_after (By fate) ls begin ≡ from ∷ ls
      → to.mode ≡ By fate → is_part end ≡ false → layers_after (By fate) (to ∷ ls) end ≡ ls
      → calls ≡ begin ∷ inner → Crossing rule paths (from ∷ ls) (to ∷ ls) inner P (end ∷ after)
      → ((x : List Call) → P x → R ((without_size begin ∷ []) ++ (x ++ (without_size end ∷ [])))) → Crossing rule paths ls ls calls R after
  around_step fate ls begin end calls inner after P R from to passes is other opens there last closes e middle joined =
      step_of rule paths ls ls calls (begin ∷ inner) after R e
      (steps rule paths ls (from ∷ ls) ls (begin ∷ inner) inner after (λ x. x ≡ without_size begin ∷ []) (λ y. R ((without_size begin ∷ []) ++ y)) R
      (subst (λ x. Crossing rule paths ls x (begin ∷ inner) (λ y. y ≡ without_size begin ∷ []) inner) opens (turn rule paths fate passes ls is begin other inner))
      (steps rule paths (from ∷ ls) (to ∷ ls) ls inner (end ∷ after) after P (λ y. y ≡ without_size end ∷ []) (λ y. R ((without_size begin ∷ []) ++ y)) middle
      (subst (λ x. Crossing rule paths (to ∷ ls) x (end ∷ after) (λ y. y ≡ without_size end ∷ []) after) closes (turn rule paths fate passes (to ∷ ls) there end last after))
      (λ x y p f. subst (λ z. R ((without_size begin ∷ []) ++ (x ++ z))) (sym f) (joined x p)))
      (λ x y f r. subst (λ z. R (z ++ y)) (sym f) r))

  -- ---- texts and binaries

  module _ (make : List ℕ → Call) (other : (bytes : List ℕ) → is_part (make bytes) ≡ false) (same_layers : (m : Mode) (ls : List Layer) (bytes : List ℕ) → layers_after m ls (make bytes) ≡ ls)
      (plainly : (bytes : List ℕ) → without_size (make bytes) ≡ make bytes) where
    fragments_step : (fate : Fate) (ls : List Layer) (pieces : List (List ℕ)) (after : List Call) → Passing fate → mode_in paths ls ≡ By fate
        → Crossing rule paths ls ls (map make pieces ++ after) (λ x. x ≡ map make pieces) after
    fragments_step fate ls [] after passes is = no_step rule paths ls after
    fragments_step fate ls (piece ∷ pieces) after passes is =
        steps rule paths ls ls ls (make piece ∷ (map make pieces ++ after)) (map make pieces ++ after) after (λ x. x ≡ without_size (make piece) ∷ []) (λ x. x ≡ map make pieces) (λ x. x ≡ make piece ∷ map make pieces)
        (subst (λ x. Crossing rule paths ls x (make piece ∷ (map make pieces ++ after)) (λ y. y ≡ without_size (make piece) ∷ []) (map make pieces ++ after)) (same_layers (By fate) ls piece)
        (turn rule paths fate passes ls is (make piece) (other piece) (map make pieces ++ after)))
        (fragments_step fate ls pieces after passes is)
        (λ x y e f. ap (λ z. z ++ y) (e ∙ ap (λ z. z ∷ []) (plainly piece)) ∙ ap (λ z. make piece ∷ z) f)

  -- ---- parts

  abbrev PassesParts : Fate → Fate → List Layer → Parts → List Call → List Call → Type 0
  PassesParts fate entry ls p calls after = (last : Fate) × Crossing rule paths (row (By fate) entry ∷ ls) (row (By fate) last ∷ ls) calls (λ x. SayParts (parts_by rule fate entry p) x []) after

  part_around : (fate g : Fate) (ls : List Layer) (slot ended : Slot) (t : Tree) (inner after : List Call) (P R : List Call → Type 0) → mode_in paths ls ≡ By fate
      → mode_of_part rule (By fate) (entry_in ls) slot ≡ By g → Crossing rule paths (layer (By g) ∷ ls) (layer (By g) ∷ ls) inner P (Call.PartEnd ended ∷ after)
      → ((x : List Call) → P x → R (passed (By g) (Call.PartBegin slot ∷ []) ++ (x ++ passed (By g) (Call.PartEnd ended ∷ [])))) → Crossing rule paths ls (with_entry Stays ls) (Call.PartBegin slot ∷ inner) R after
  part_around fate g ls slot ended t inner after P R is k middle joined =
      let first = passed (By g) (Call.PartBegin slot ∷ []) in
      let last = passed (By g) (Call.PartEnd ended ∷ []) in
      steps rule paths ls (layer (By g) ∷ ls) (with_entry Stays ls) (Call.PartBegin slot ∷ inner) inner after (λ x. x ≡ first) (λ y. R (first ++ y)) R
      (begin_step rule paths fate ls slot (By g) inner is k)
      (steps rule paths (layer (By g) ∷ ls) (layer (By g) ∷ ls) (with_entry Stays ls) inner (Call.PartEnd ended ∷ after) after P (λ y. y ≡ last) (λ y. R (first ++ y)) middle
      (end_step rule paths g ls ended after) (λ x y p f. subst (λ z. R (first ++ (x ++ z))) (sym f) (joined x p)))
      (λ x y f r. subst (λ z. R (z ++ y)) (sym f) r)

  part_step : (fate g : Fate) (ls : List Layer) (slot : Slot) (t : Tree) (inner after : List Call) → mode_in paths ls ≡ By fate → mode_of_part rule (By fate) (entry_in ls) slot ≡ By g
      → IsGood t → Says t inner (Call.PartEnd (bare_slot slot) ∷ after)
      → (Passing g → PassesTree g (layer (By g) ∷ ls) t inner (Call.PartEnd (bare_slot slot) ∷ after))
      → Crossing rule paths ls (with_entry Stays ls) (Call.PartBegin slot ∷ inner) (PassesPart rule g slot t) after
  part_step fate LeftOut ls slot t inner after is k good s next =
      part_around fate LeftOut ls slot (bare_slot slot) t inner after (λ x. x ≡ []) (PassesPart rule LeftOut slot t) is k
      (skip_step rule paths ls t inner (Call.PartEnd (bare_slot slot) ∷ after) good s) (λ x e. ap (λ y. y ++ []) e)
  part_step fate Stays ls slot t inner after is k good s next =
      part_around fate Stays ls slot (bare_slot slot) t inner after (λ x. Says t x []) (PassesPart rule Stays slot t) is k (next stays) (λ x h. (x, refl, h))
  part_step fate (Within rests) ls slot t inner after is k good s next =
      part_around fate (Within rests) ls slot (bare_slot slot) t inner after (λ x. Says (pruned rule rests t) x []) (PassesPart rule (Within rests) slot t) is k (next (within rests)) (λ x h. (x, refl, h))

  -- a part, and then others
  one_part : (fate entry : Fate) (ls : List Layer) (slot : Slot) (t : Tree) (p : Parts) (calls inner between after : List Call) (g : Fate)
      → mode_of_part rule (By fate) entry slot ≡ By g
      → parts_by rule fate entry (part slot t p) ≡ placed g slot t (λ rests. pruned rule rests t) (parts_by rule fate Stays p)
      → IsGood t → calls ≡ Call.PartBegin slot ∷ inner → Says t inner (Call.PartEnd (bare_slot slot) ∷ between)
      → ((g : Fate) (base : List Layer) → Passing g → mode_in paths base ≡ By g → PassesTree g base t inner (Call.PartEnd (bare_slot slot) ∷ between))
      → PassesParts fate Stays ls p between after → PassesParts fate entry ls (part slot t p) calls after
  one_part fate entry ls slot t p calls inner between after g k same good e s ih rest = (
    rest.0,
    step_of rule paths (row (By fate) entry ∷ ls) (row (By fate) rest.0 ∷ ls) calls (Call.PartBegin slot ∷ inner) after (λ x. SayParts (parts_by rule fate entry (part slot t p)) x []) e
        (steps rule paths (row (By fate) entry ∷ ls) (row (By fate) Stays ∷ ls) (row (By fate) rest.0 ∷ ls) (Call.PartBegin slot ∷ inner) between after
        (PassesPart rule g slot t) (λ x. SayParts (parts_by rule fate Stays p) x []) (λ x. SayParts (parts_by rule fate entry (part slot t p)) x [])
        (part_step fate g (row (By fate) entry ∷ ls) slot t inner between refl k good s (λ q. ih g (layer (By g) ∷ row (By fate) entry ∷ ls) q refl)) rest.1
        (λ x y a b. subst (λ z. SayParts z (x ++ y) []) (sym same) (part_said rule g slot t (parts_by rule fate Stays p) x y a b))),
  )

  -- a key, and then what follows in its map
  one_key : (fate entry : Fate) (ls : List Layer) (t : Tree) (p : Parts) (calls inner between after : List Call)
      → mode_of_part rule (By fate) entry Slot.Key ≡ Holding
      → parts_by rule fate entry (part Slot.Key t p) ≡ placed (key_fate (fate_in rule fate (key_label t))) Slot.Key t (λ rests. pruned rule rests t) (parts_by rule fate (fate_in rule fate (key_label t)) p)
      → IsGood t → calls ≡ Call.PartBegin Slot.Key ∷ inner → Says t inner (Call.PartEnd Slot.Key ∷ between)
      → PassesParts fate (fate_in rule fate (key_label t)) ls p between after → PassesParts fate entry ls (part Slot.Key t p) calls after
  one_key fate entry ls t p calls inner between after k same good e s rest =
      let own = fate_in rule fate (key_label t) in
      let here = row (By fate) entry ∷ ls in (
        rest.0,
        step_of rule paths here (row (By fate) rest.0 ∷ ls) calls (Call.PartBegin Slot.Key ∷ inner) after (λ x. SayParts (parts_by rule fate entry (part Slot.Key t p)) x []) e
            (steps rule paths here (row (By fate) own ∷ ls) (row (By fate) rest.0 ∷ ls) (Call.PartBegin Slot.Key ∷ inner) between after
            (PassesKey rule paths own t) (λ x. SayParts (parts_by rule fate own p) x []) (λ x. SayParts (parts_by rule fate entry (part Slot.Key t p)) x [])
            (steps rule paths here (layer Holding ∷ here) (row (By fate) own ∷ ls) (Call.PartBegin Slot.Key ∷ inner) inner between
            (λ x. x ≡ []) (PassesKey rule paths own t) (PassesKey rule paths own t)
            (begin_step rule paths fate here Slot.Key Holding inner refl k) (key_step rule paths fate here t inner between refl good s)
            (λ x y f h. subst (λ z. PassesKey rule paths own t (z ++ y)) (sym f) h))
            rest.1 (λ x y a b. subst (λ z. SayParts z (x ++ y) []) (sym same) (key_said own t (λ rests. pruned rule rests t) (parts_by rule fate own p) x y rule paths a b))),
      )

  -- what a part comes to, by its slot
  by_slot : (fate entry : Fate) → Passing fate → (ls : List Layer) (slot : Slot) (t : Tree) (p : Parts) (calls inner between after : List Call) → IsGood t → calls ≡ Call.PartBegin slot ∷ inner
      → Says t inner (Call.PartEnd (bare_slot slot) ∷ between)
      → ((g : Fate) (base : List Layer) → Passing g → mode_in paths base ≡ By g → PassesTree g base t inner (Call.PartEnd (bare_slot slot) ∷ between))
      → ((e : Fate) → PassesParts fate e ls p between after) → PassesParts fate entry ls (part slot t p) calls after
  by_slot LeftOut entry passes ls slot t p calls inner between after good e s ih next = elim passes [ ]
  by_slot Stays entry stays ls Slot.Key t p calls inner between after good e s ih next =
      one_key Stays entry ls t p calls inner between after refl refl good e s (next Stays)
  by_slot Stays entry stays ls slot t p calls inner between after good e s ih next =
      one_part Stays entry ls slot t p calls inner between after Stays refl refl good e s ih (next Stays)
  by_slot (Within rests) entry (within same) ls Slot.Key t p calls inner between after good e s ih next =
      one_key (Within rests) entry ls t p calls inner between after refl refl good e s (next (fate_in rule (Within rests) (key_label t)))
  by_slot (Within rests) entry (within same) ls slot t p calls inner between after good e s ih next =
      one_part (Within rests) entry ls slot t p calls inner between after (slot_fate rule rests entry slot) refl refl good e s ih (next Stays)

  -- ---- trees

  text_said : (fate : Fate) (bytes : List ℕ) (size : Option ℕ) (pieces : List (List ℕ)) → IsSize size (length bytes) → concat pieces ≡ bytes
      → (x : List Call) → x ≡ map (Call.TextFragment false) pieces → Says (by rule fate (tree.Text bytes)) ((Call.TextBegin size ∷ []) ++ (x ++ (Call.TextEnd ∷ []))) []
  text_said fate bytes size pieces h k x e =
      subst (λ t. Says t (Call.TextBegin size ∷ (x ++ (Call.TextEnd ∷ []))) []) (sym (by_leaf rule fate (tree.Text bytes) (λ rests. refl)))
      (size, pieces, h, k, ap (λ y. Call.TextBegin size ∷ (y ++ (Call.TextEnd ∷ []))) e)

  binary_said : (fate : Fate) (bytes : List ℕ) (size : Option ℕ) (pieces : List (List ℕ)) → IsSize size (length bytes) → concat pieces ≡ bytes
      → (x : List Call) → x ≡ map (Call.BinaryFragment false) pieces → Says (by rule fate (tree.Binary bytes)) ((Call.BinaryBegin size ∷ []) ++ (x ++ (Call.BinaryEnd ∷ []))) []
  binary_said fate bytes size pieces h k x e =
      subst (λ t. Says t (Call.BinaryBegin size ∷ (x ++ (Call.BinaryEnd ∷ []))) []) (sym (by_leaf rule fate (tree.Binary bytes) (λ rests. refl)))
      (size, pieces, h, k, ap (λ y. Call.BinaryBegin size ∷ (y ++ (Call.BinaryEnd ∷ []))) e)

  container_said : (fate : Fate) (head : Head) (size : Option ℕ) (p : Parts) → AreInOrder (tree.first_kind head) p → IsSize size (entries p)
      → (x : List Call) → SayParts (parts_by rule fate Stays p) x [] → Says (by rule fate (Container head p)) ((without_size (Call.Begin head size) ∷ []) ++ (x ++ (Call.End (bare_head head) ∷ []))) []
  container_said fate head size p o h x s =
      let given = size_passed rule fate head size p o h in
      subst (λ t. Says t (without_size (Call.Begin head size) ∷ (x ++ (Call.End (bare_head head) ∷ []))) []) (sym (by_container rule fate head p o)) (
        given.0,
        x ++ (Call.End (bare_head head) ∷ []),
        given.2,
        ap (λ y. y ∷ (x ++ (Call.End (bare_head head) ∷ []))) given.1,
        parts_before (parts_by rule fate Stays p) x [] (Call.End (bare_head head) ∷ []) s,
      )

  mutual
    tree_step : (t : Tree) (fate : Fate) (ls : List Layer) (calls after : List Call) → Passing fate → mode_in paths ls ≡ By fate → IsGood t → Says t calls after → PassesTree fate ls t calls after
    tree_step tree.Null fate ls calls after passes is good s =
        leaf_step fate ls tree.Null Call.Null calls after passes is refl refl refl (by_leaf rule fate tree.Null (λ rests. refl)) refl s
    tree_step (tree.Truth b) fate ls calls after passes is good s =
        leaf_step fate ls (tree.Truth b) (Call.Truth b) calls after passes is refl refl refl (by_leaf rule fate (tree.Truth b) (λ rests. refl)) refl s
    tree_step (tree.Int type n) fate ls calls after passes is good s =
        leaf_step fate ls (tree.Int type n) (Call.Int type n) calls after passes is refl refl refl (by_leaf rule fate (tree.Int type n) (λ rests. refl)) refl s
    tree_step (tree.Standalone name) fate ls calls after passes is good s =
        leaf_step fate ls (tree.Standalone name) (Call.Standalone name) calls after passes is refl refl refl (by_leaf rule fate (tree.Standalone name) (λ rests. refl)) refl s
    tree_step (tree.Text bytes) fate ls calls after passes is good s =
        around_step fate ls (Call.TextBegin s.0) Call.TextEnd calls (map (Call.TextFragment false) s.1 ++ (Call.TextEnd ∷ after)) after
        (λ x. x ≡ map (Call.TextFragment false) s.1) (λ x. Says (by rule fate (tree.Text bytes)) x []) (layer (By fate)) (layer (By fate)) passes is refl refl refl refl refl s.4
        (fragments_step (Call.TextFragment false) (λ piece. refl) (λ m l piece. refl) (λ piece. refl) fate (layer (By fate) ∷ ls) s.1 (Call.TextEnd ∷ after) passes refl)
        (text_said fate bytes s.0 s.1 s.2 s.3)
    tree_step (tree.Binary bytes) fate ls calls after passes is good s =
        around_step fate ls (Call.BinaryBegin s.0) Call.BinaryEnd calls (map (Call.BinaryFragment false) s.1 ++ (Call.BinaryEnd ∷ after)) after
        (λ x. x ≡ map (Call.BinaryFragment false) s.1) (λ x. Says (by rule fate (tree.Binary bytes)) x []) (layer (By fate)) (layer (By fate)) passes is refl refl refl refl refl s.4
        (fragments_step (Call.BinaryFragment false) (λ piece. refl) (λ m l piece. refl) (λ piece. refl) fate (layer (By fate) ∷ ls) s.1 (Call.BinaryEnd ∷ after) passes refl)
        (binary_said fate bytes s.0 s.1 s.2 s.3)
    tree_step (tree.EmptyEnum name) fate ls calls after passes is good s =
        around_step fate ls (Call.EnumBegin name) (Call.EnumEnd (bare_name name)) calls (Call.EnumEnd (bare_name name) ∷ after) after
        (λ x. x ≡ []) (λ x. Says (by rule fate (tree.EmptyEnum name)) x []) (layer (By fate)) (layer (By fate)) passes is refl refl refl refl refl s
        (no_step rule paths (layer (By fate) ∷ ls) (Call.EnumEnd (bare_name name) ∷ after))
        (λ x e. subst (λ t. Says t (Call.EnumBegin name ∷ (x ++ (Call.EnumEnd (bare_name name) ∷ []))) []) (sym (by_leaf rule fate (tree.EmptyEnum name) (λ rests. refl)))
        (ap (λ y. Call.EnumBegin name ∷ (y ++ (Call.EnumEnd (bare_name name) ∷ []))) e))
    tree_step (Tagged name t) fate ls calls after passes is good s =
        around_step fate ls (Call.TaggedBegin name) (Call.TaggedEnd (bare_name name)) calls s.0 after
        (λ x. Says (by rule fate t) x []) (λ x. Says (by rule fate (Tagged name t)) x []) (layer (By fate)) (layer (By fate)) passes is refl refl refl refl refl s.1
        (tree_step t fate (layer (By fate) ∷ ls) s.0 (Call.TaggedEnd (bare_name name) ∷ after) passes refl good.2 s.2)
        (λ x h. subst (λ u. Says u (Call.TaggedBegin name ∷ (x ++ (Call.TaggedEnd (bare_name name) ∷ []))) []) (sym (by_tagged rule fate name t))
        (x ++ (Call.TaggedEnd (bare_name name) ∷ []), refl, says_before (by rule fate t) x [] (Call.TaggedEnd (bare_name name) ∷ []) h))
    tree_step (Enum name t) fate ls calls after passes is good s =
        around_step fate ls (Call.EnumBegin name) (Call.EnumEnd (bare_name name)) calls s.0 after
        (λ x. Says (by rule fate t) x []) (λ x. Says (by rule fate (Enum name t)) x []) (layer (By fate)) (layer (By fate)) passes is refl refl refl refl refl s.1
        (tree_step t fate (layer (By fate) ∷ ls) s.0 (Call.EnumEnd (bare_name name) ∷ after) passes refl good.2 s.2)
        (λ x h. subst (λ u. Says u (Call.EnumBegin name ∷ (x ++ (Call.EnumEnd (bare_name name) ∷ []))) []) (sym (by_enum rule fate name t))
        (x ++ (Call.EnumEnd (bare_name name) ∷ []), refl, says_before (by rule fate t) x [] (Call.EnumEnd (bare_name name) ∷ []) h))
    tree_step (Container head p) fate ls calls after passes is good s =
        let inner = parts_step p fate Stays ls s.1 (Call.End (bare_head head) ∷ after) passes good.2 s.4 in
        around_step fate ls (Call.Begin head s.0) (Call.End (bare_head head)) calls s.1 after
        (λ x. SayParts (parts_by rule fate Stays p) x []) (λ x. Says (by rule fate (Container head p)) x []) (layer (By fate)) (row (By fate) inner.0) passes is refl refl refl refl refl s.3
        inner.1 (container_said fate head s.0 p good.1 s.2)

    parts_step : (p : Parts) (fate entry : Fate) (ls : List Layer) (calls after : List Call) → Passing fate → AreGood p → SayParts p calls after → PassesParts fate entry ls p calls after
    parts_step none fate entry ls calls after passes good s = (
      entry,
      step_of rule paths (row (By fate) entry ∷ ls) (row (By fate) entry ∷ ls) calls after after (λ x. SayParts (parts_by rule fate entry none) x []) s
          (step_to rule paths (row (By fate) entry ∷ ls) (row (By fate) entry ∷ ls) after after (λ x. x ≡ []) (λ x. SayParts (parts_by rule fate entry none) x [])
          (no_step rule paths (row (By fate) entry ∷ ls) after) (λ x e. subst (λ q. SayParts q x []) (sym (by_none rule fate entry)) e)),
    )
    parts_step (part slot t p) fate entry ls calls after passes good s =
        by_slot fate entry passes ls slot t p calls s.0 s.1 after good.1 s.2 s.3
        (λ g base q is. tree_step t g base s.0 (Call.PartEnd (bare_slot slot) ∷ s.1) q is good.1 s.3)
        (λ e. parts_step p fate e ls s.1 after passes good.2 s.4)

-- ---- the whole

pub due_spells_pruned : (rule : Rule) (paths : List Path) (calls : List Call) (t : Tree) → Spells calls t → Spells (all_due rule paths fresh calls) (pruned rule paths t)
due_spells_pruned rule paths calls t s =
    let g = tree_step rule paths t (Within paths) [] (plain calls) [] (within paths) refl s.0 s.1 calls refl in
    let hints = hints_passed rule paths (Within paths) [] empty_forest refl g.rest [] g.left in
    let rest_is : all_due rule paths fresh g.rest ≡ hints.0 ++ [] = ap (all_due rule paths fresh) (sym (append-nil g.rest)) ∙ hints.1 in
    let same : plain (all_due rule paths fresh calls) ≡ plain g.out =
    ap plain (g.goes ∙ ap (λ x. g.out ++ x) (rest_is ∙ append-nil hints.0)) ∙ plain_append g.out hints.0 ∙ ap (λ x. plain g.out ++ x) hints.2 ∙ append-nil (plain g.out) in
    (pruned_good rule paths t s.0, subst (λ x. Says (pruned rule paths t) x []) (sym same) g.says)
