-- The lower calls of each call: what a stream that doesn't take it is told in its place.
use Rattle.std.specs.Prelude.{ℤ, ℕ, pos, true, false, List, [], ◌∷◌, ◌++◌, length, flat_map, Option, Some, None, if◌then◌else◌}
use Rattle.std.specs.Fmt.{signed_decimal}
use Rattle.sval_label.specs.Calls.{Tag, Label, Name, IntType, Head, Slot, Call}
use Rattle.sval_label.specs.Ranges.{is_signed}
use Rattle.sval_core.specs.Names.{number_tag, no_name, tag_alone, untagged_offset, says_none}

-- a label as a text, which is borrowed where it lives as long as the program
abbrev pub label_calls : Label → List Call
label_calls label = Call.TextBegin (Some (length label.text)) ∷ Call.TextFragment label.is_static label.text ∷ Call.TextEnd ∷ []

-- a label as a text, and no label as `null`
abbrev pub label_or_null : Option Label → List Call
label_or_null (Some label) = label_calls label
label_or_null None = Call.Null ∷ []

-- a tag by itself: `null` where it says that there is no value, or has no label, and else its label
abbrev pub own_calls : Name → List Call
own_calls name = if says_none name.tag then Call.Null ∷ [] else label_or_null name.label

-- a text of unknown size under a tag
abbrev pub text_under : Tag → List ℕ → List Call
text_under tag text = Call.TaggedBegin (tag_alone tag) ∷ Call.TextBegin None ∷ Call.TextFragment false text ∷ Call.TextEnd ∷ Call.TaggedEnd (tag_alone tag) ∷ []

-- a number of 128 bits: one of 64 bits with its sign where it fits, and else its digits as a text
abbrev pub wide_calls : ℤ → List Call
wide_calls n = if is_signed 63 n then Call.Int IntType.I64 n ∷ [] else text_under number_tag (signed_decimal n)

-- a number as one of the next larger type
abbrev pub int_calls : IntType → ℤ → List Call
int_calls IntType.U8 n = Call.Int IntType.U16 n ∷ []
int_calls IntType.U16 n = Call.Int IntType.U32 n ∷ []
int_calls IntType.U32 n = Call.Int IntType.U64 n ∷ []
int_calls IntType.U64 n = Call.Int IntType.U128 n ∷ []
int_calls IntType.U128 n = wide_calls n
int_calls IntType.I8 n = Call.Int IntType.I16 n ∷ []
int_calls IntType.I16 n = Call.Int IntType.I32 n ∷ []
int_calls IntType.I32 n = Call.Int IntType.I64 n ∷ []
int_calls IntType.I64 n = Call.Int IntType.I64 n ∷ []
int_calls IntType.I128 n = wide_calls n

-- a byte as an item of a sequence
abbrev pub byte_calls : ℕ → List Call
byte_calls byte = Call.PartBegin Slot.Item ∷ Call.Int IntType.U8 (pos byte) ∷ Call.PartEnd Slot.Item ∷ []

-- a map begins as a sequence, a record as a tagged map, a tuple as a tagged sequence, a record tuple as a record
abbrev pub begin_calls : Head → Option ℕ → List Call
begin_calls Head.Seq size = Call.Begin Head.Seq size ∷ []
begin_calls Head.Map size = Call.Begin Head.Seq size ∷ []
begin_calls (Head.Record name) size = Call.TaggedBegin name ∷ Call.Begin Head.Map size ∷ []
begin_calls (Head.Tuple name) size = Call.TaggedBegin name ∷ Call.Begin Head.Seq size ∷ []
begin_calls (Head.RecordTuple name) size = Call.Begin (Head.Record name) size ∷ []

-- a container's end ends all that its begin began
abbrev pub end_calls : Head → List Call
end_calls Head.Seq = Call.End Head.Seq ∷ []
end_calls Head.Map = Call.End Head.Seq ∷ []
end_calls (Head.Record name) = Call.End Head.Map ∷ Call.TaggedEnd name ∷ []
end_calls (Head.Tuple name) = Call.End Head.Seq ∷ Call.TaggedEnd name ∷ []
end_calls (Head.RecordTuple name) = Call.End (Head.Record name) ∷ []

-- a map is a sequence of pairs, a pair is a tuple of two, and a field is a pair of its label and its value
abbrev pub part_begin_calls : Slot → List Call
part_begin_calls Slot.Item = Call.PartBegin Slot.Item ∷ []
part_begin_calls Slot.Key = Call.PartBegin Slot.Item ∷ Call.Begin (Head.Tuple no_name) (Some 2) ∷ Call.PartBegin (Slot.Place None (untagged_offset 0)) ∷ []
part_begin_calls Slot.Value = Call.PartBegin (Slot.Place None (untagged_offset 1)) ∷ []
part_begin_calls (Slot.Field tag label) = Call.PartBegin Slot.Key ∷ (label_calls label ++ (Call.PartEnd Slot.Key ∷ Call.PartBegin Slot.Value ∷ []))
part_begin_calls (Slot.Place tag index) = Call.PartBegin Slot.Item ∷ []
part_begin_calls (Slot.FieldPlace tag label index) = Call.PartBegin (Slot.Field tag label) ∷ []

-- a part's end ends what its begin began, but the item and the pair that a key's began end with its value
abbrev pub part_end_calls : Slot → List Call
part_end_calls Slot.Item = Call.PartEnd Slot.Item ∷ []
part_end_calls Slot.Key = Call.PartEnd (Slot.Place None (untagged_offset 0)) ∷ []
part_end_calls Slot.Value = Call.PartEnd (Slot.Place None (untagged_offset 1)) ∷ Call.End (Head.Tuple no_name) ∷ Call.PartEnd Slot.Item ∷ []
part_end_calls (Slot.Field tag label) = Call.PartEnd Slot.Value ∷ []
part_end_calls (Slot.Place tag index) = Call.PartEnd Slot.Item ∷ []
part_end_calls (Slot.FieldPlace tag label index) = Call.PartEnd (Slot.Field tag label) ∷ []

-- the lower calls; a base call stands for itself
abbrev pub lower : Call → List Call
lower Call.Null = Call.Null ∷ []
lower (Call.Truth b) = Call.Truth b ∷ []
lower (Call.Int type n) = int_calls type n
lower (Call.Standalone name) = Call.TaggedBegin name ∷ (own_calls name ++ Call.TaggedEnd name ∷ [])
lower (Call.TagHint tag) = []
lower (Call.TextBegin size) = Call.TextBegin size ∷ []
lower (Call.TextFragment borrowed text) = Call.TextFragment false text ∷ []
lower Call.TextEnd = Call.TextEnd ∷ []
lower (Call.BinaryBegin size) = Call.Begin Head.Seq size ∷ []
lower (Call.BinaryFragment true bytes) = Call.BinaryFragment false bytes ∷ []
lower (Call.BinaryFragment false bytes) = flat_map byte_calls bytes
lower Call.BinaryEnd = Call.End Head.Seq ∷ []
lower (Call.EnumBegin name) = Call.TaggedBegin name ∷ []
lower (Call.EnumEnd name) = Call.TaggedEnd name ∷ []
lower (Call.TaggedBegin name) = []
lower (Call.TaggedEnd name) = []
lower (Call.Begin head size) = begin_calls head size
lower (Call.End head) = end_calls head
lower (Call.PartBegin slot) = part_begin_calls slot
lower (Call.PartEnd slot) = part_end_calls slot
