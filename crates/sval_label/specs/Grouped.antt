-- What a call in its group says.
use Rattle.std.specs.Prelude.{ℕ, ℤ, pos, List, true, false}
use Rattle.std.specs.Borrow.{Bor}
use Rattle.sval_label.specs.declared.grouped.Int as made_int
use Rattle.sval_label.specs.declared.grouped.Int.TheVariants as int
use Rattle.sval_label.specs.declared.grouped.Fragment as made_fragment
use Rattle.sval_label.specs.declared.grouped.Fragment.TheVariants.{Borrowed, Computed}
use Rattle.sval_label.specs.declared.grouped.Head as made_head
use Rattle.sval_label.specs.declared.grouped.Head.TheVariants as head
use Rattle.sval_label.specs.declared.grouped.Slot as made_slot
use Rattle.sval_label.specs.declared.grouped.Slot.TheVariants as slot
use Rattle.sval_label.specs.declared.grouped.GroupedCall.{GroupedCall}
use Rattle.sval_label.specs.declared.grouped.GroupedCall.TheVariants as grouped
use Rattle.sval_label.specs.SeenIndex.{seen_index}
use Rattle.sval_label.specs.SeenTags.{seen_ref_tag}
use Rattle.sval_label.specs.SeenName.{seen_option_tag, seen_name}
use Rattle.sval_label.specs.Calls as calls

-- the number that a whole number of the program is
abbrev pub int_number : made_int.Int → ℤ
int_number (int.U8 n) = pos n
int_number (int.U16 n) = pos n
int_number (int.U32 n) = pos n
int_number (int.U64 n) = pos n
int_number (int.U128 n) = pos n
int_number (int.I8 n) = n
int_number (int.I16 n) = n
int_number (int.I32 n) = n
int_number (int.I64 n) = n
int_number (int.I128 n) = n

-- the type that a whole number of the program has
abbrev pub int_type : made_int.Int → calls.IntType
int_type (int.U8 n) = calls.U8
int_type (int.U16 n) = calls.U16
int_type (int.U32 n) = calls.U32
int_type (int.U64 n) = calls.U64
int_type (int.U128 n) = calls.U128
int_type (int.I8 n) = calls.I8
int_type (int.I16 n) = calls.I16
int_type (int.I32 n) = calls.I32
int_type (int.I64 n) = calls.I64
int_type (int.I128 n) = calls.I128

-- the call of a whole number
abbrev pub int_call : made_int.Int → calls.Call
int_call n = calls.Int (int_type n) (int_number n)

-- the call of a text's fragment; `lent` reads a borrowed one
abbrev pub text_call : {T : Type 0} → (T → List ℕ) → made_fragment.Fragment T (Bor (List ℕ)) → calls.Call
text_call lent (Borrowed fragment) = calls.TextFragment true (lent fragment)
text_call lent (Computed fragment) = calls.TextFragment false fragment.now

-- the call of a binary's fragment; `lent` reads a borrowed one
abbrev pub binary_call : {B : Type 0} → (B → List ℕ) → made_fragment.Fragment B (Bor (List ℕ)) → calls.Call
binary_call lent (Borrowed fragment) = calls.BinaryFragment true (lent fragment)
binary_call lent (Computed fragment) = calls.BinaryFragment false fragment.now

-- what a container's begin and end say of it: which it is, and its name, if it has one
abbrev pub seen_head : made_head.Head → calls.Head
seen_head head.Seq = calls.Seq
seen_head head.Map = calls.Map
seen_head (head.Record name) = calls.Record (seen_name name)
seen_head (head.Tuple name) = calls.Tuple (seen_name name)
seen_head (head.RecordTuple name) = calls.RecordTuple (seen_name name)

-- what a part's begin and end say of its place: which it is, and its tag, label and index, as far as it has them
abbrev pub seen_slot : made_slot.Slot → calls.Slot
seen_slot slot.Item = calls.Item
seen_slot slot.Key = calls.Key
seen_slot slot.Value = calls.Value
seen_slot (slot.Field tag label) = calls.Field (seen_option_tag tag) label.now
seen_slot (slot.Place tag index) = calls.Place (seen_option_tag tag) (seen_index index.now)
seen_slot (slot.FieldPlace tag label index) = calls.FieldPlace (seen_option_tag tag) label.now (seen_index index.now)

-- the call that a call in its group is; `text` and `bytes` read a borrowed fragment
abbrev pub grouped_call : {T B : Type 0} → (T → List ℕ) → (B → List ℕ) → GroupedCall T B → calls.Call
grouped_call text bytes grouped.Null = calls.Null
grouped_call text bytes (grouped.Bool b) = calls.Truth b
grouped_call text bytes (grouped.Int n) = int_call n
grouped_call text bytes (grouped.TextBegin size) = calls.TextBegin size
grouped_call text bytes (grouped.TextFragment fragment) = text_call text fragment
grouped_call text bytes grouped.TextEnd = calls.TextEnd
grouped_call text bytes (grouped.BinaryBegin size) = calls.BinaryBegin size
grouped_call text bytes (grouped.BinaryFragment fragment) = binary_call bytes fragment
grouped_call text bytes grouped.BinaryEnd = calls.BinaryEnd
grouped_call text bytes (grouped.EnumBegin name) = calls.EnumBegin (seen_name name)
grouped_call text bytes (grouped.EnumEnd name) = calls.EnumEnd (seen_name name)
grouped_call text bytes (grouped.TaggedBegin name) = calls.TaggedBegin (seen_name name)
grouped_call text bytes (grouped.TaggedEnd name) = calls.TaggedEnd (seen_name name)
grouped_call text bytes (grouped.Tag name) = calls.Standalone (seen_name name)
grouped_call text bytes (grouped.TagHint tag) = calls.TagHint (seen_ref_tag tag)
grouped_call text bytes (grouped.Begin head size) = calls.Begin (seen_head head) size
grouped_call text bytes (grouped.End head) = calls.End (seen_head head)
grouped_call text bytes (grouped.PartBegin slot) = calls.PartBegin (seen_slot slot)
grouped_call text bytes (grouped.PartEnd slot) = calls.PartEnd (seen_slot slot)
