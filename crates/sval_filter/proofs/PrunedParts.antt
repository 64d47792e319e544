-- What is left of a tree, where calls are passed on, and what spells it.
use Rattle.std.specs.Prelude.{◌≡◌, ℕ, ◌+◌, List, [], ◌∷◌, ◌++◌, Option, None, refl}
use Rattle.std.proofs.Common.{sym, ap, ◌∙◌, subst, append_assoc}
use Rattle.sval_label.specs.Calls.{Call, Head, Slot}
use Rattle.sval_core.specs.Trees as tree
use Rattle.sval_core.specs.Trees.{Tree, Tagged, Enum, Container, Parts, none, part, Item, Place, kind_of, AreInOrder}
use Rattle.sval_core.specs.Spells.{Says, SayParts, IsSize, entries, bare_slot}
use Rattle.sval_core.proofs.ManySpellings.{says_before}
use Rattle.sval_filter.specs.Paths.{Path, Rule, Fate, LeftOut, Stays, Within}
use Rattle.sval_filter.specs.Pruned.{pruned, placed}
use Rattle.sval_filter.specs.Filtering.{without_size}
use Rattle.sval_filter.proofs.PrunedGood.{may_end}
use Rattle.sval_filter.proofs.PartByPart.{key_fate, parts_from, parts_alike}
use Rattle.sval_filter.proofs.PartSteps.{PassesKey}

-- ---- pruning where calls are passed on

abbrev pub by : Rule → Fate → Tree → Tree
by rule LeftOut t = t
by rule Stays t = t
by rule (Within rests) t = pruned rule rests t

abbrev pub parts_by : Rule → Fate → Fate → Parts → Parts
parts_by rule LeftOut entry p = p
parts_by rule Stays entry p = p
parts_by rule (Within rests) entry p = parts_from rule rests entry p

pub by_leaf : (rule : Rule) (fate : Fate) (t : Tree) → ((rests : List Path) → pruned rule rests t ≡ t) → by rule fate t ≡ t
by_leaf rule LeftOut t h = refl
by_leaf rule Stays t h = refl
by_leaf rule (Within rests) t h = h rests

pub by_tagged : (rule : Rule) (fate : Fate) (name : _) (t : Tree) → by rule fate (Tagged name t) ≡ Tagged name (by rule fate t)
by_tagged rule LeftOut name t = refl
by_tagged rule Stays name t = refl
by_tagged rule (Within rests) name t = refl

pub by_enum : (rule : Rule) (fate : Fate) (name : _) (t : Tree) → by rule fate (Enum name t) ≡ Enum name (by rule fate t)
by_enum rule LeftOut name t = refl
by_enum rule Stays name t = refl
by_enum rule (Within rests) name t = refl

pub by_container : (rule : Rule) (fate : Fate) (head : Head) (p : Parts) → AreInOrder (tree.first_kind head) p → by rule fate (Container head p) ≡ Container head (parts_by rule fate Stays p)
by_container rule LeftOut head p o = refl
by_container rule Stays head p o = refl
by_container rule (Within rests) head p o = ap (Container head) (parts_alike rule rests (tree.first_kind head) p (may_end head) o)

pub by_none : (rule : Rule) (fate entry : Fate) → parts_by rule fate entry none ≡ none
by_none rule LeftOut entry = refl
by_none rule Stays entry = refl
by_none rule (Within rests) entry = refl

-- ---- sizes: no part of a sequence or a tuple is left out

items_kept : (rule : Rule) (rests : List Path) (entry : Fate) (p : Parts) → AreInOrder Item p → entries (parts_from rule rests entry p) ≡ entries p
items_kept rule rests entry none o = refl
items_kept rule rests entry (part Slot.Item t p) o = ap (λ n. 1 + n) (items_kept rule rests Stays p o.1)
items_kept rule rests entry (part slot t p) o = cc (o.0)

places_kept : (rule : Rule) (rests : List Path) (entry : Fate) (p : Parts) → AreInOrder Place p → entries (parts_from rule rests entry p) ≡ entries p
places_kept rule rests entry none o = refl
places_kept rule rests entry (part (Slot.Place tag index) t p) o = ap (λ n. 1 + n) (places_kept rule rests Stays p o.1)
places_kept rule rests entry (part slot t p) o = cc (o.0)

items_by : (rule : Rule) (fate : Fate) (p : Parts) → AreInOrder Item p → entries (parts_by rule fate Stays p) ≡ entries p
items_by rule LeftOut p o = refl
items_by rule Stays p o = refl
items_by rule (Within rests) p o = items_kept rule rests Stays p o

places_by : (rule : Rule) (fate : Fate) (p : Parts) → AreInOrder Place p → entries (parts_by rule fate Stays p) ≡ entries p
places_by rule LeftOut p o = refl
places_by rule Stays p o = refl
places_by rule (Within rests) p o = places_kept rule rests Stays p o

-- the size that is passed on is exact
pub size_passed : (rule : Rule) (fate : Fate) (head : Head) (size : Option ℕ) (p : Parts) → AreInOrder (tree.first_kind head) p → IsSize size (entries p)
    → (given : Option ℕ) × (without_size (Call.Begin head size) ≡ Call.Begin head given) × IsSize given (entries (parts_by rule fate Stays p))
size_passed rule fate Head.Seq size p o h = (size, refl, subst (IsSize size) (sym (items_by rule fate p o)) h)
size_passed rule fate Head.Map size p o h = (None, refl, tt)
size_passed rule fate (Head.Record name) size p o h = (None, refl, tt)
size_passed rule fate (Head.Tuple name) size p o h = (size, refl, subst (IsSize size) (sym (places_by rule fate p o)) h)
size_passed rule fate (Head.RecordTuple name) size p o h = (None, refl, tt)

-- ---- spellings of one part more

pub key_said : (entry : Fate) (key : Tree) (prune : List Path → Tree) (p : Parts) (first second : List Call) (rule : Rule) (paths : List Path) → PassesKey rule paths entry key first → SayParts p second []
    → SayParts (placed (key_fate entry) Slot.Key key prune p) (first ++ second) []
key_said LeftOut key prune p first second rule paths e s = subst (λ x. SayParts p (x ++ second) []) (sym e) s
key_said fate key prune p first second rule paths k s = (
  k.0 ++ (Call.PartEnd Slot.Key ∷ second),
  second,
  ap (λ x. x ++ second) k.1 ∙ ap (λ x. Call.PartBegin Slot.Key ∷ x) (append_assoc k.0 (Call.PartEnd Slot.Key ∷ []) second),
  says_before key k.0 [] (Call.PartEnd Slot.Key ∷ second) k.2,
  s,
)

-- what is passed on of a part that is no key
abbrev pub PassesPart : Rule → Fate → Slot → Tree → List Call → Type 0
PassesPart rule LeftOut slot t calls = calls ≡ []
PassesPart rule fate slot t calls = (inner : List Call) × (calls ≡ Call.PartBegin slot ∷ (inner ++ (Call.PartEnd (bare_slot slot) ∷ []))) × Says (by rule fate t) inner []

pub part_said : (rule : Rule) (fate : Fate) (slot : Slot) (t : Tree) (p : Parts) (first second : List Call) → PassesPart rule fate slot t first → SayParts p second []
    → SayParts (placed fate slot t (λ rests. pruned rule rests t) p) (first ++ second) []
part_said rule LeftOut slot t p first second e s = subst (λ x. SayParts p (x ++ second) []) (sym e) s
part_said rule fate slot t p first second k s = (
  k.0 ++ (Call.PartEnd (bare_slot slot) ∷ second),
  second,
  ap (λ x. x ++ second) k.1 ∙ ap (λ x. Call.PartBegin slot ∷ x) (append_assoc k.0 (Call.PartEnd (bare_slot slot) ∷ []) second),
  says_before (by rule fate t) k.0 [] (Call.PartEnd (bare_slot slot) ∷ second) k.2,
  s,
)
