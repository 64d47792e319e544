-- Dropping by no path leaves a tree as it is.
use Rattle.std.specs.Prelude.{◌≡◌, ℕ, List, [], Option, Some, None, refl}
use Rattle.std.proofs.Common.{ap, ◌∙◌}
use Rattle.sval_label.specs.Calls.{Slot}
use Rattle.sval_core.specs.Trees.{Tree, Null, Truth, Int, Text, Binary, Standalone, Tagged, EmptyEnum, Enum, Container, Parts, none, part}
use Rattle.sval_filter.specs.Paths.{Fate, Stays, Within, Drop, fate_of}
use Rattle.sval_filter.specs.Pruned.{pruned, pruned_parts, placed, placed_entry, part_fate, key_label}

-- nothing is left out of a part that has such a fate
data Harmless : Fate → Type 0 where
  stays : Harmless Stays
  by_none : Harmless (Within [])

harmless : (label : Option (List ℕ)) → Harmless (fate_of Drop [] label)
harmless None = stays
harmless (Some label) = by_none

placed_so : (fate : Fate) (slot : Slot) (t : Tree) (p : Parts) → Harmless fate → pruned Drop [] t ≡ t → placed fate slot t (λ rests. pruned Drop rests t) p ≡ part slot t p
placed_so Stays slot t p stays e = refl
placed_so (Within []) slot t p by_none e = ap (λ x. part slot x p) e
placed_so fate slot t p h e = elim h [ ]

harmless_part : (slot : Slot) → Harmless (part_fate Drop [] slot)
harmless_part (Slot.Field tag label) = by_none
harmless_part slot = by_none

entry_so : (fate : Fate) (key value : Tree) (p : Parts) → Harmless fate → pruned Drop [] value ≡ value
    → placed_entry fate key value (λ rests. pruned Drop rests value) p ≡ part Slot.Key key (part Slot.Value value p)
entry_so Stays key value p stays e = refl
entry_so (Within []) key value p by_none e = ap (λ x. part Slot.Key key (part Slot.Value x p)) e
entry_so fate key value p h e = elim h [ ]

mutual
  pub drop_nothing : (t : Tree) → pruned Drop [] t ≡ t
  drop_nothing Null = refl
  drop_nothing (Truth b) = refl
  drop_nothing (Int type n) = refl
  drop_nothing (Text bytes) = refl
  drop_nothing (Binary bytes) = refl
  drop_nothing (Standalone name) = refl
  drop_nothing (Tagged name t) = ap (Tagged name) (drop_nothing t)
  drop_nothing (EmptyEnum name) = refl
  drop_nothing (Enum name t) = ap (Enum name) (drop_nothing t)
  drop_nothing (Container head p) = ap (Container head) (parts_stay p)

  parts_stay : (p : Parts) → pruned_parts Drop [] p ≡ p
  parts_stay none = refl
  parts_stay (part Slot.Key key (part Slot.Value value p)) =
      entry_so (fate_of Drop [] (key_label key)) key value (pruned_parts Drop [] p) (harmless (key_label key)) (drop_nothing value)
      ∙ ap (λ x. part Slot.Key key (part Slot.Value value x)) (parts_stay p)
  parts_stay (part slot t p) =
      placed_so (part_fate Drop [] slot) slot t (pruned_parts Drop [] p) (harmless_part slot) (drop_nothing t) ∙ ap (part slot t) (parts_stay p)
