-- What is left of a good tree is good, and what is left of a real one is real.
use Rattle.std.specs.Prelude.{◌≡◌, List, refl}
use Rattle.std.proofs.Common.{sym, subst}
use Rattle.sval_label.specs.Calls.{Slot, Head}
use Rattle.sval_core.specs.Trees.{Tree, Null, Truth, Int, Text, Binary, Standalone, Tagged, EmptyEnum, Enum, Container, Parts, none, part, plain_slot, Kind, Item, Key, Value, Field, Place, FieldPlace, kind_of, first_kind, next_kind, MayEnd, AreInOrder, TextKind, Ordinary, Number, JsonValue, JsonText, JsonNumber, text_kind, MayHold, IsVariant, IsGood, AreGood}
use Rattle.sval_core.specs.Real.{IsRealSlot, IsInRange, AreInRange, IsReal}
use Rattle.sval_filter.specs.Paths.{Path, Rule, Fate, LeftOut, Stays, Within, fate_of}
use Rattle.sval_filter.specs.Pruned.{pruned, pruned_parts, placed, placed_entry, part_fate, key_label}

-- ---- a tag holds a text, and an enum a variant

held_pruned : (kind : TextKind) (rule : Rule) (paths : List Path) (t : Tree) → MayHold kind t → MayHold kind (pruned rule paths t)
held_pruned Ordinary rule paths t h = tt
held_pruned Number rule paths (Text bytes) h = h
held_pruned Number rule paths t h = absurd h
held_pruned JsonValue rule paths (Text bytes) h = h
held_pruned JsonValue rule paths t h = absurd h
held_pruned JsonText rule paths (Text bytes) h = h
held_pruned JsonText rule paths t h = absurd h
held_pruned JsonNumber rule paths (Text bytes) h = h
held_pruned JsonNumber rule paths t h = absurd h

variant_pruned : (rule : Rule) (paths : List Path) (t : Tree) → IsVariant t → IsVariant (pruned rule paths t)
variant_pruned rule paths (Standalone name) h = h
variant_pruned rule paths (Tagged name t) h = h
variant_pruned rule paths (EmptyEnum name) h = h
variant_pruned rule paths (Enum name t) h = h
variant_pruned rule paths (Container head parts) h = h
variant_pruned rule paths t h = absurd h

-- ---- parts stay in order

entry_in_order : (fate : Fate) (key value : Tree) (prune : List Path → Tree) (rest : Parts) → AreInOrder Key rest → AreInOrder Key (placed_entry fate key value prune rest)
entry_in_order LeftOut key value prune rest h = h
entry_in_order Stays key value prune rest h = (refl, (refl, h))
entry_in_order (Within paths) key value prune rest h = (refl, (refl, h))

field_in_order : (fate : Fate) (slot : Slot) (t : Tree) (prune : List Path → Tree) (rest : Parts) → kind_of slot ≡ next_kind (kind_of slot)
    → AreInOrder (next_kind (kind_of slot)) rest → AreInOrder (kind_of slot) (placed fate slot t prune rest)
field_in_order LeftOut slot t prune rest e h = subst (λ k. AreInOrder k rest) (sym e) h
field_in_order Stays slot t prune rest e h = (refl, h)
field_in_order (Within paths) slot t prune rest e h = (refl, h)

-- what comes after a part
pub next_in : (kind : Kind) (slot : Slot) (p : Parts) → (kind_of slot ≡ kind) × AreInOrder (next_kind kind) p → AreInOrder (next_kind (kind_of slot)) p
next_in kind slot p o = subst (λ k. AreInOrder (next_kind k) p) (sym o.0) o.1

module _ (rule : Rule) (paths : List Path) where
  mutual
    in_order : (kind : Kind) (p : Parts) → MayEnd kind → AreInOrder kind p → AreInOrder kind (pruned_parts rule paths p)
    in_order kind none m o = o
    in_order kind (part Slot.Key key p) m o =
        subst (λ k. AreInOrder k (pruned_parts rule paths (part Slot.Key key p))) o.0 (key_in_order key p (next_in kind Slot.Key p o))
    in_order kind (part Slot.Item t p) m o =
        subst (λ k. AreInOrder k (pruned_parts rule paths (part Slot.Item t p))) o.0 (refl, in_order Item p tt (next_in kind Slot.Item p o))
    in_order kind (part Slot.Value t p) m o = absurd (subst MayEnd (sym o.0) m)
    in_order kind (part (Slot.Field tag label) t p) m o =
        subst (λ k. AreInOrder k (pruned_parts rule paths (part (Slot.Field tag label) t p))) o.0
        (field_in_order (part_fate rule paths (Slot.Field tag label)) (Slot.Field tag label) t (λ rests. pruned rule rests t) (pruned_parts rule paths p) refl
        (in_order Field p tt (next_in kind (Slot.Field tag label) p o)))
    in_order kind (part (Slot.Place tag index) t p) m o =
        subst (λ k. AreInOrder k (pruned_parts rule paths (part (Slot.Place tag index) t p))) o.0 (refl, in_order Place p tt (next_in kind (Slot.Place tag index) p o))
    in_order kind (part (Slot.FieldPlace tag label index) t p) m o =
        subst (λ k. AreInOrder k (pruned_parts rule paths (part (Slot.FieldPlace tag label index) t p))) o.0
        (field_in_order (part_fate rule paths (Slot.FieldPlace tag label index)) (Slot.FieldPlace tag label index) t (λ rests. pruned rule rests t) (pruned_parts rule paths p) refl
        (in_order FieldPlace p tt (next_in kind (Slot.FieldPlace tag label index) p o)))

    key_in_order : (key : Tree) (p : Parts) → AreInOrder Value p → AreInOrder Key (pruned_parts rule paths (part Slot.Key key p))
    key_in_order key none o = absurd o
    key_in_order key (part Slot.Value value p) o =
        entry_in_order (fate_of rule paths (key_label key)) key value (λ rests. pruned rule rests value) (pruned_parts rule paths p) (in_order Key p tt o.1)
    key_in_order key (part slot t p) o = cc (o.0)

-- ---- the whole

pub may_end : (head : Head) → MayEnd (first_kind head)
may_end Head.Seq = tt
may_end Head.Map = tt
may_end (Head.Record name) = tt
may_end (Head.Tuple name) = tt
may_end (Head.RecordTuple name) = tt

placed_good : (fate : Fate) (slot : Slot) (t : Tree) (prune : List Path → Tree) (rest : Parts) → plain_slot slot ≡ slot → IsGood t → ((paths : List Path) → IsGood (prune paths)) → AreGood rest
    → AreGood (placed fate slot t prune rest)
placed_good LeftOut slot t prune rest e g h r = r
placed_good Stays slot t prune rest e g h r = (e, g, r)
placed_good (Within paths) slot t prune rest e g h r = (e, h paths, r)

entry_good : (fate : Fate) (key value : Tree) (prune : List Path → Tree) (rest : Parts) → IsGood key → IsGood value → ((paths : List Path) → IsGood (prune paths)) → AreGood rest
    → AreGood (placed_entry fate key value prune rest)
entry_good LeftOut key value prune rest k g h r = r
entry_good Stays key value prune rest k g h r = (refl, k, (refl, g, r))
entry_good (Within paths) key value prune rest k g h r = (refl, k, (refl, h paths, r))

mutual
  pub pruned_good : (rule : Rule) (paths : List Path) (t : Tree) → IsGood t → IsGood (pruned rule paths t)
  pruned_good rule paths Null g = g
  pruned_good rule paths (Truth b) g = g
  pruned_good rule paths (Int type number) g = g
  pruned_good rule paths (Text bytes) g = g
  pruned_good rule paths (Binary bytes) g = g
  pruned_good rule paths (Standalone name) g = g
  pruned_good rule paths (Tagged name t) g = (g.0, held_pruned (text_kind name.tag) rule paths t g.1, pruned_good rule paths t g.2)
  pruned_good rule paths (EmptyEnum name) g = g
  pruned_good rule paths (Enum name t) g = (g.0, variant_pruned rule paths t g.1, pruned_good rule paths t g.2)
  pruned_good rule paths (Container head p) g = (g.0, in_order rule paths (first_kind head) p (may_end head) g.1, parts_good rule paths p g.2)

  parts_good : (rule : Rule) (paths : List Path) (p : Parts) → AreGood p → AreGood (pruned_parts rule paths p)
  parts_good rule paths none g = g
  parts_good rule paths (part Slot.Key key (part Slot.Value value p)) g =
      entry_good (fate_of rule paths (key_label key)) key value (λ rests. pruned rule rests value) (pruned_parts rule paths p) g.1 g.2.1
      (λ rests. pruned_good rule rests value g.2.1) (parts_good rule paths p g.2.2)
  parts_good rule paths (part slot t p) g =
      placed_good (part_fate rule paths slot) slot t (λ rests. pruned rule rests t) (pruned_parts rule paths p) g.0 g.1
      (λ rests. pruned_good rule rests t g.1) (parts_good rule paths p g.2)

placed_in_range : (fate : Fate) (slot : Slot) (t : Tree) (prune : List Path → Tree) (rest : Parts) → IsRealSlot slot → IsInRange t → ((paths : List Path) → IsInRange (prune paths)) → AreInRange rest
    → AreInRange (placed fate slot t prune rest)
placed_in_range LeftOut slot t prune rest e g h r = r
placed_in_range Stays slot t prune rest e g h r = (e, g, r)
placed_in_range (Within paths) slot t prune rest e g h r = (e, h paths, r)

entry_in_range : (fate : Fate) (key value : Tree) (prune : List Path → Tree) (rest : Parts) → IsInRange key → IsInRange value → ((paths : List Path) → IsInRange (prune paths)) → AreInRange rest
    → AreInRange (placed_entry fate key value prune rest)
entry_in_range LeftOut key value prune rest k g h r = r
entry_in_range Stays key value prune rest k g h r = (tt, k, (tt, g, r))
entry_in_range (Within paths) key value prune rest k g h r = (tt, k, (tt, h paths, r))

mutual
  pruned_in_range : (rule : Rule) (paths : List Path) (t : Tree) → IsInRange t → IsInRange (pruned rule paths t)
  pruned_in_range rule paths Null g = g
  pruned_in_range rule paths (Truth b) g = g
  pruned_in_range rule paths (Int type number) g = g
  pruned_in_range rule paths (Text bytes) g = g
  pruned_in_range rule paths (Binary bytes) g = g
  pruned_in_range rule paths (Standalone name) g = g
  pruned_in_range rule paths (Tagged name t) g = (g.0, pruned_in_range rule paths t g.1)
  pruned_in_range rule paths (EmptyEnum name) g = g
  pruned_in_range rule paths (Enum name t) g = (g.0, pruned_in_range rule paths t g.1)
  pruned_in_range rule paths (Container head p) g = (g.0, parts_in_range rule paths p g.1)

  parts_in_range : (rule : Rule) (paths : List Path) (p : Parts) → AreInRange p → AreInRange (pruned_parts rule paths p)
  parts_in_range rule paths none g = g
  parts_in_range rule paths (part Slot.Key key (part Slot.Value value p)) g =
      entry_in_range (fate_of rule paths (key_label key)) key value (λ rests. pruned rule rests value) (pruned_parts rule paths p) g.1 g.2.1
      (λ rests. pruned_in_range rule rests value g.2.1) (parts_in_range rule paths p g.2.2)
  parts_in_range rule paths (part slot t p) g =
      placed_in_range (part_fate rule paths slot) slot t (λ rests. pruned rule rests t) (pruned_parts rule paths p) g.0 g.1
      (λ rests. pruned_in_range rule rests t g.1) (parts_in_range rule paths p g.2)

pub pruned_real : (rule : Rule) (paths : List Path) (t : Tree) → IsReal t → IsReal (pruned rule paths t)
pruned_real rule paths t r = (pruned_good rule paths t r.0, pruned_in_range rule paths t r.1)
