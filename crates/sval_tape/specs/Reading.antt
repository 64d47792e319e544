-- Reading a tape from left to right.
use Rattle.std.specs.Prelude.{ℕ, zero, suc, ◌+◌, ◌-◌, ◌*◌, ◌/◌, ◌%◌, ◌^◌, nat_lt, ◌==◌, if◌then◌else◌, ℤ, pos, negsuc, Bool, true, false, List, [], ◌∷◌, length, take, drop, slice_get, Option, None, Some, option_map, option_and_then}
use Rattle.std.specs.Str.{is_utf8}
use Rattle.sval_label.specs.Calls.{Tag, Label, Index, Name, IntType, U8, U16, U32, U64, U128, I8, I16, I32, I64, I128, Call, Null, Truth, Int, Standalone, TagHint, TextBegin, TextFragment, TextEnd, BinaryBegin, BinaryFragment, BinaryEnd, EnumBegin, EnumEnd, TaggedBegin, TaggedEnd, Begin, End, PartBegin, PartEnd, Head, Slot, Seq, Map, Record, Tuple, RecordTuple, Item, Key, Value, Field, Place, FieldPlace}
use Rattle.sval_label.specs.Ranges.{is_of_type, is_index}
use Rattle.sval_label.specs.Tags.{is_tag_name}

-- what stands at the front of bytes, if it does, and the bytes behind it
abbrev pub ReadsAtFront : Type 0 → Type 0
ReadsAtFront A = List ℕ → Option (A × List ℕ)

-- nothing
abbrev pub nothing_at : ReadsAtFront (Unit {0})
nothing_at bytes = Some (tt, bytes)

-- an operand, seen so
abbrev pub seen_at : {A B : Type 0} → (A → B) → ReadsAtFront A → ReadsAtFront B
seen_at view read bytes = option_map (λ x. (view x.0, x.1)) (read bytes)

-- an operand that this is true of
abbrev pub kept_at : {A : Type 0} → (A → Bool) → ReadsAtFront A → ReadsAtFront A
kept_at test read bytes = option_and_then (λ x. if test x.0 then Some x else None) (read bytes)

-- one operand, and then another
abbrev pub both_at : {A B : Type 0} → ReadsAtFront A → ReadsAtFront B → ReadsAtFront (A × B)
both_at first second bytes = option_and_then (λ x. option_map (λ y. ((x.0, y.0), y.1)) (second x.1)) (first bytes)

-- an operand that may be left out
abbrev pub optional_at : {A : Type 0} → ReadsAtFront A → ReadsAtFront (Option A)
optional_at read [] = None
optional_at read (zero ∷ bytes) = Some (None, bytes)
optional_at read (suc zero ∷ bytes) = seen_at Some read bytes
optional_at read (suc (suc byte) ∷ bytes) = None

-- a truth value
abbrev pub truth_at : ReadsAtFront Bool
truth_at [] = None
truth_at (zero ∷ bytes) = Some (false, bytes)
truth_at (suc zero ∷ bytes) = Some (true, bytes)
truth_at (suc (suc byte) ∷ bytes) = None

-- ---- numbers

-- a number with these lower seven bits, and these bits above; it has 128 bits, and its last byte isn't 0
abbrev pub above : ℕ → ℕ × List ℕ → Option (ℕ × List ℕ)
above low high = if high.0 == 0 then None else (if nat_lt high.0 (2 ^ 121) then Some (low + 128 * high.0, high.1) else None)

-- a number in at most so many bytes
abbrev pub leb128_at_in : (room : ℕ) → ReadsAtFront ℕ
leb128_at_in zero bytes = None
leb128_at_in (suc room) [] = None
leb128_at_in (suc room) (byte ∷ bytes) = if nat_lt byte 128 then Some (byte, bytes) else option_and_then (above (byte - 128)) (leb128_at_in room bytes)

-- a number
unfoldable pub leb128_at : ReadsAtFront ℕ
leb128_at bytes = leb128_at_in 19 bytes

-- the number with a sign
abbrev pub unzigzag : ℕ → ℤ
unzigzag n = if n % 2 == 0 then pos (n / 2) else negsuc (n / 2)

-- the number of this type
abbrev pub type_unzigzag : IntType → ℕ → ℤ
type_unzigzag I8 = unzigzag
type_unzigzag I16 = unzigzag
type_unzigzag I32 = unzigzag
type_unzigzag I64 = unzigzag
type_unzigzag I128 = unzigzag
type_unzigzag type = pos

-- a whole number of this type
unfoldable pub int_at : IntType → ReadsAtFront ℤ
int_at type = kept_at (is_of_type type) (seen_at (type_unzigzag type) leb128_at)

-- ---- texts and names

-- bytes behind their number
abbrev pub cut_block : ℕ × List ℕ → Option (List ℕ × List ℕ)
cut_block len = if nat_lt (length len.1) len.0 then None else Some (take len.0 len.1, drop len.0 len.1)

-- a binary
unfoldable pub block_at : ReadsAtFront (List ℕ)
block_at bytes = option_and_then cut_block (leb128_at bytes)

-- a text
unfoldable pub text_at : ReadsAtFront (List ℕ)
text_at = kept_at is_utf8 block_at

-- a size
unfoldable pub size_at : ReadsAtFront (Option ℕ)
size_at = optional_at (kept_at (λ n. nat_lt n (2 ^ 64)) leb128_at)

-- a tag of the ten
unfoldable pub tag_at : ReadsAtFront Tag
tag_at = kept_at is_tag_name block_at

-- a tag, where one is given
unfoldable pub tag_option_at : ReadsAtFront (Option Tag)
tag_option_at = optional_at tag_at

-- the label of a text and a tag
abbrev pub label_of : List ℕ × Option Tag → Label
label_of parts = record { text = parts.0; tag = parts.1; is_static = false }

-- a label
unfoldable pub label_at : ReadsAtFront Label
label_at = seen_at label_of (both_at text_at tag_option_at)

-- the number of an index
unfoldable pub index_number_at : ReadsAtFront ℤ
index_number_at = kept_at is_index (seen_at unzigzag leb128_at)

-- the index of a number and a tag
abbrev pub index_of_parts : ℤ × Option Tag → Index
index_of_parts parts = record { number = parts.0; tag = parts.1 }

-- an index
unfoldable pub index_at : ReadsAtFront Index
index_at = seen_at index_of_parts (both_at index_number_at tag_option_at)

-- the name of its three parts
abbrev pub name_of_parts : Option Tag × (Option Label × Option Index) → Name
name_of_parts parts = record { tag = parts.0; label = parts.1.0; index = parts.1.1 }

-- a label and an index, each where it is given
unfoldable pub label_and_index_at : ReadsAtFront (Option Label × Option Index)
label_and_index_at = both_at (optional_at label_at) (optional_at index_at)

-- a name
unfoldable pub name_at_front : ReadsAtFront Name
name_at_front = seen_at name_of_parts (both_at tag_option_at label_and_index_at)

-- a name and a size
unfoldable pub name_and_size_at : ReadsAtFront (Name × Option ℕ)
name_and_size_at = both_at name_at_front size_at

-- a tag, where one is given, and a label
unfoldable pub field_at : ReadsAtFront (Option Tag × Label)
field_at = both_at tag_option_at label_at

-- a tag, where one is given, and an index
unfoldable pub place_at : ReadsAtFront (Option Tag × Index)
place_at = both_at tag_option_at index_at

-- a label and an index
unfoldable pub label_then_index_at : ReadsAtFront (Label × Index)
label_then_index_at = both_at label_at index_at

-- a tag, where one is given, a label and an index
unfoldable pub field_place_at : ReadsAtFront (Option Tag × (Label × Index))
field_place_at = both_at tag_option_at label_then_index_at

-- ---- calls

-- a call without operands
abbrev pub alone : Call → ReadsAtFront Call
alone call = seen_at (λ _. call) nothing_at

-- a call with a number of this type
abbrev pub int_form : IntType → ReadsAtFront Call
int_form type = seen_at (Int type) (int_at type)

-- a begin with a name and a size
abbrev pub begin_form : (Name → Head) → ReadsAtFront Call
begin_form head = seen_at (λ x. Begin (head x.0) x.1) name_and_size_at

-- a part with a tag and a label
abbrev pub field_form : (Slot → Call) → ReadsAtFront Call
field_form part = seen_at (λ x. part (Field x.0 x.1)) field_at

-- a part with a tag and an index
abbrev pub place_form : (Slot → Call) → ReadsAtFront Call
place_form part = seen_at (λ x. part (Place x.0 x.1)) place_at

-- a part with a tag, a label and an index
abbrev pub field_place_form : (Slot → Call) → ReadsAtFront Call
field_place_form part = seen_at (λ x. part (FieldPlace x.0 x.1.0 x.1.1)) field_place_at

-- what follows each number of a call, from 0 on
unfoldable pub tape_forms : List (ReadsAtFront Call)
tape_forms =
    alone Null ∷ seen_at Truth truth_at
    ∷ int_form U8 ∷ int_form U16 ∷ int_form U32 ∷ int_form U64 ∷ int_form U128
    ∷ int_form I8 ∷ int_form I16 ∷ int_form I32 ∷ int_form I64 ∷ int_form I128
    ∷ seen_at TextBegin size_at ∷ seen_at (TextFragment true) text_at ∷ seen_at (TextFragment false) text_at ∷ alone TextEnd
    ∷ seen_at BinaryBegin size_at ∷ seen_at (BinaryFragment true) block_at ∷ seen_at (BinaryFragment false) block_at ∷ alone BinaryEnd
    ∷ seen_at Standalone name_at_front ∷ seen_at TagHint tag_at
    ∷ seen_at EnumBegin name_at_front ∷ seen_at EnumEnd name_at_front ∷ seen_at TaggedBegin name_at_front ∷ seen_at TaggedEnd name_at_front
    ∷ seen_at (Begin Seq) size_at ∷ seen_at (Begin Map) size_at ∷ begin_form Record ∷ begin_form Tuple ∷ begin_form RecordTuple
    ∷ alone (End Seq) ∷ alone (End Map)
    ∷ seen_at (λ name. End (Record name)) name_at_front ∷ seen_at (λ name. End (Tuple name)) name_at_front ∷ seen_at (λ name. End (RecordTuple name)) name_at_front
    ∷ alone (PartBegin Item) ∷ alone (PartBegin Key) ∷ alone (PartBegin Value)
    ∷ field_form PartBegin ∷ place_form PartBegin ∷ field_place_form PartBegin
    ∷ alone (PartEnd Item) ∷ alone (PartEnd Key) ∷ alone (PartEnd Value)
    ∷ field_form PartEnd ∷ place_form PartEnd ∷ field_place_form PartEnd ∷ []

-- the call of this number, whose operands follow
unfoldable pub operands_at : ℕ → ReadsAtFront Call
operands_at number bytes = option_and_then (λ form. form bytes) (slice_get tape_forms number)

-- a call
abbrev pub call_at_front : ReadsAtFront Call
call_at_front [] = None
call_at_front (number ∷ bytes) = operands_at number bytes

-- the calls at the front of bytes, up to so many
abbrev pub calls_up_to : ℕ → List ℕ → List Call
calls_up_to zero bytes = []
calls_up_to (suc count) bytes = elim (call_at_front bytes) [ None ↦ [] | Some x ↦ x.0 ∷ calls_up_to count x.1 ]

-- the calls at the front of bytes: each takes a byte at least
unfoldable pub calls_on_tape : List ℕ → List Call
calls_on_tape bytes = calls_up_to (length bytes) bytes
