-- Whether an end says what its begin said: parts that are absent in both or present in both, and equal.
use Rattle.std.specs.Prelude.{◌≡◌, Bool, true, false, ◌&&◌, Option, Some, None}
use Rattle.std.specs.Bool.{Decides}
use Rattle.sval_label.specs.Calls.{Name, Head, Slot}
use Rattle.sval_label.specs.Equalities.{same_tag, same_label, same_index}
use Rattle.sval_core.specs.Spells.{bare_name, bare_head, bare_slot}

-- both are absent, or both are present and pass the test
abbrev pub same_option : {T : Type 0} → (T → T → Bool) → Option T → Option T → Bool
same_option same None None = true
same_option same (Some a) (Some b) = same a b
same_option same _ _ = false

-- two names have the same tag, label's text and index's number, each of which may be absent in both
abbrev pub same_name : Name → Name → Bool
same_name a b = same_option same_tag a.tag b.tag && (same_option same_label a.label b.label && same_option same_index a.index b.index)

-- two containers are of one kind, and have the same name
abbrev pub same_head : Head → Head → Bool
same_head Head.Seq Head.Seq = true
same_head Head.Map Head.Map = true
same_head (Head.Record a) (Head.Record b) = same_name a b
same_head (Head.Tuple a) (Head.Tuple b) = same_name a b
same_head (Head.RecordTuple a) (Head.RecordTuple b) = same_name a b
same_head _ _ = false

-- two parts' places are of one kind, and have the same tag, label's text and index's number, if it has them
abbrev pub same_slot : Slot → Slot → Bool
same_slot Slot.Item Slot.Item = true
same_slot Slot.Key Slot.Key = true
same_slot Slot.Value Slot.Value = true
same_slot (Slot.Field tag label) (Slot.Field tag' label') = same_option same_tag tag tag' && same_label label label'
same_slot (Slot.Place tag index) (Slot.Place tag' index') = same_option same_tag tag tag' && same_index index index'
same_slot (Slot.FieldPlace tag label index) (Slot.FieldPlace tag' label' index') =
    same_option same_tag tag tag' && (same_label label label' && same_index index index')
same_slot _ _ = false

-- the test of two names decides whether they are equal in what spelling compares
abbrev pub NamesMeet : Type 0
NamesMeet = (a b : Name) → Decides (same_name a b) (bare_name a ≡ bare_name b)

-- the test of two containers decides whether they are equal in what spelling compares
abbrev pub HeadsMeet : Type 0
HeadsMeet = (a b : Head) → Decides (same_head a b) (bare_head a ≡ bare_head b)

-- the test of two parts' places decides whether they are equal in what spelling compares
abbrev pub SlotsMeet : Type 0
SlotsMeet = (a b : Slot) → Decides (same_slot a b) (bare_slot a ≡ bare_slot b)
