-- Parts that are in order are pruned one by one, where what its key says of an entry is handed on to its value.
use Rattle.std.specs.Prelude.{◌≡◌, List, refl}
use Rattle.std.proofs.Common.{sym, ap, subst}
use Rattle.sval_label.specs.Calls.{Slot}
use Rattle.sval_core.specs.Trees.{Tree, Parts, none, part, Kind, Item, Key, Value, Field, Place, FieldPlace, MayEnd, AreInOrder}
use Rattle.sval_filter.specs.Paths.{Path, Rule, Fate, LeftOut, Stays, Within, fate_of}
use Rattle.sval_filter.specs.Pruned.{pruned, pruned_parts, placed, placed_entry, part_fate, key_label}
use Rattle.sval_filter.specs.Filtering.{slot_fate}
use Rattle.sval_filter.proofs.PrunedGood.{next_in}

-- a key stays as it is, or is left out with its entry
abbrev pub key_fate : Fate → Fate
key_fate LeftOut = LeftOut
key_fate fate = Stays

-- the parts, where this becomes of the entry whose key came just before
abbrev pub parts_from : Rule → List Path → Fate → Parts → Parts
parts_from rule paths entry none = none
parts_from rule paths entry (part Slot.Key key parts) =
    placed (key_fate (fate_of rule paths (key_label key))) Slot.Key key (λ rests. pruned rule rests key) (parts_from rule paths (fate_of rule paths (key_label key)) parts)
parts_from rule paths entry (part slot tree parts) =
    placed (slot_fate rule paths entry slot) slot tree (λ rests. pruned rule rests tree) (parts_from rule paths Stays parts)

entry_alike : (fate : Fate) (key value : Tree) (other prune : List Path → Tree) (rest same : Parts) → rest ≡ same
    → placed_entry fate key value prune rest ≡ placed (key_fate fate) Slot.Key key other (placed fate Slot.Value value prune same)
entry_alike LeftOut key value other prune rest same e = e
entry_alike Stays key value other prune rest same e = ap (λ x. part Slot.Key key (part Slot.Value value x)) e
entry_alike (Within paths) key value other prune rest same e = ap (λ x. part Slot.Key key (part Slot.Value (prune paths) x)) e

module _ (rule : Rule) (paths : List Path) where
  mutual
    pub parts_alike : (kind : Kind) (p : Parts) → MayEnd kind → AreInOrder kind p → pruned_parts rule paths p ≡ parts_from rule paths Stays p
    parts_alike kind none m o = refl
    parts_alike kind (part Slot.Key key p) m o = key_alike key p (next_in kind Slot.Key p o)
    parts_alike kind (part Slot.Value t p) m o = absurd (subst MayEnd (sym o.0) m)
    parts_alike kind (part Slot.Item t p) m o = ap (part Slot.Item (pruned rule paths t)) (parts_alike Item p tt (next_in kind Slot.Item p o))
    parts_alike kind (part (Slot.Place tag index) t p) m o =
        ap (part (Slot.Place tag index) (pruned rule paths t)) (parts_alike Place p tt (next_in kind (Slot.Place tag index) p o))
    parts_alike kind (part (Slot.Field tag label) t p) m o =
        ap (placed (part_fate rule paths (Slot.Field tag label)) (Slot.Field tag label) t (λ rests. pruned rule rests t)) (parts_alike Field p tt (next_in kind (Slot.Field tag label) p o))
    parts_alike kind (part (Slot.FieldPlace tag label index) t p) m o =
        ap (placed (part_fate rule paths (Slot.FieldPlace tag label index)) (Slot.FieldPlace tag label index) t (λ rests. pruned rule rests t))
        (parts_alike FieldPlace p tt (next_in kind (Slot.FieldPlace tag label index) p o))

    key_alike : (key : Tree) (p : Parts) → AreInOrder Value p → pruned_parts rule paths (part Slot.Key key p) ≡ parts_from rule paths Stays (part Slot.Key key p)
    key_alike key none o = absurd o
    key_alike key (part Slot.Value value p) o =
        entry_alike (fate_of rule paths (key_label key)) key value (λ rests. pruned rule rests key) (λ rests. pruned rule rests value)
        (pruned_parts rule paths p) (parts_from rule paths Stays p) (parts_alike Key p tt o.1)
    key_alike key (part slot t p) o = cc (o.0)
