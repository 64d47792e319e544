-- Calls as bytes: a tape. A call is a byte, its number, and then its operands in order.
use Rattle.std.specs.Prelude.{ℕ, suc, zero, ◌+◌, ◌*◌, ◌/◌, ◌%◌, nat_lt, if◌then◌else◌, ℤ, pos, negsuc, Bool, true, false, List, [], ◌∷◌, ◌++◌, length, Option, None, Some}
use Rattle.std.specs.List.{flat_map}
use Rattle.sval_label.specs.Calls.{Tag, Label, Index, Name, IntType, U8, U16, U32, U64, U128, I8, I16, I32, I64, I128, Call, Null, Truth, Int, Standalone, TagHint, TextBegin, TextFragment, TextEnd, BinaryBegin, BinaryFragment, BinaryEnd, EnumBegin, EnumEnd, TaggedBegin, TaggedEnd, Begin, End, PartBegin, PartEnd, Head, Seq, Map, Record, Tuple, RecordTuple, Slot, Item, Key, Value, Field, Place, FieldPlace}

-- ---- operands

-- a number in bytes of seven bits, the lowest first; each but the last has 128 more; there is room for so many bytes
abbrev pub leb128_in : (room : ℕ) → ℕ → List ℕ
leb128_in zero n = []
leb128_in (suc room) n = if nat_lt n 128 then n ∷ [] else ((n % 128 + 128) ∷ leb128_in room (n / 128))

-- a number as unsigned LEB128, in the shortest form; 19 bytes have room for each number of 128 bits
unfoldable pub leb128 : ℕ → List ℕ
leb128 n = leb128_in 19 n

-- a number with a sign as one without: 0, -1, 1, -2, 2 are 0, 1, 2, 3, 4
abbrev pub zigzag : ℤ → ℕ
zigzag (pos n) = 2 * n
zigzag (negsuc n) = 2 * n + 1

-- an operand that may be left out: 0, or 1 and the operand
abbrev pub optional : {A : Type 0} → (A → List ℕ) → Option A → List ℕ
optional operand None = 0 ∷ []
optional operand (Some x) = 1 ∷ operand x

-- a truth value: 0 or 1
abbrev pub tape_truth_bytes : Bool → List ℕ
tape_truth_bytes false = 0 ∷ []
tape_truth_bytes true = 1 ∷ []

-- a text or a binary: the number of its bytes, and the bytes
abbrev pub block : List ℕ → List ℕ
block bytes = leb128 (length bytes) ++ bytes

-- a size, where one is given
abbrev pub size_bytes : Option ℕ → List ℕ
size_bytes = optional leb128

-- a tag, where one is given
abbrev pub tag_bytes : Option Tag → List ℕ
tag_bytes = optional block

-- a label: its text and its tag
abbrev pub label_bytes : Label → List ℕ
label_bytes label = block label.text ++ tag_bytes label.tag

-- an index: its number and its tag
abbrev pub index_bytes : Index → List ℕ
index_bytes index = leb128 (zigzag index.number) ++ tag_bytes index.tag

-- a name: its tag, its label and its index, each where it is given
abbrev pub name_bytes : Name → List ℕ
name_bytes name = tag_bytes name.tag ++ (optional label_bytes name.label ++ optional index_bytes name.index)

-- a whole number: one of a signed type by zigzag
abbrev pub int_bytes : IntType → ℤ → List ℕ
int_bytes I8 n = leb128 (zigzag n)
int_bytes I16 n = leb128 (zigzag n)
int_bytes I32 n = leb128 (zigzag n)
int_bytes I64 n = leb128 (zigzag n)
int_bytes I128 n = leb128 (zigzag n)
int_bytes type (pos n) = leb128 n
int_bytes type (negsuc n) = []

-- the name of a container, where its kind has one
abbrev pub tape_head_bytes : Head → List ℕ
tape_head_bytes Seq = []
tape_head_bytes Map = []
tape_head_bytes (Record name) = name_bytes name
tape_head_bytes (Tuple name) = name_bytes name
tape_head_bytes (RecordTuple name) = name_bytes name

-- the tag, the label and the index of a part, as far as its kind has them
abbrev pub slot_bytes : Slot → List ℕ
slot_bytes Item = []
slot_bytes Key = []
slot_bytes Value = []
slot_bytes (Field tag label) = tag_bytes tag ++ label_bytes label
slot_bytes (Place tag index) = tag_bytes tag ++ index_bytes index
slot_bytes (FieldPlace tag label index) = tag_bytes tag ++ (label_bytes label ++ index_bytes index)

-- ---- numbers of calls

-- a type of whole numbers: from 0 to 9
abbrev pub type_number : IntType → ℕ
type_number U8 = 0
type_number U16 = 1
type_number U32 = 2
type_number U64 = 3
type_number U128 = 4
type_number I8 = 5
type_number I16 = 6
type_number I32 = 7
type_number I64 = 8
type_number I128 = 9

-- a container: from 0 to 4
abbrev pub head_number : Head → ℕ
head_number Seq = 0
head_number Map = 1
head_number (Record name) = 2
head_number (Tuple name) = 3
head_number (RecordTuple name) = 4

-- a part: from 0 to 5
abbrev pub slot_number : Slot → ℕ
slot_number Item = 0
slot_number Key = 1
slot_number Value = 2
slot_number (Field tag label) = 3
slot_number (Place tag index) = 4
slot_number (FieldPlace tag label index) = 5

-- ---- calls

-- the number of a call: from 0 to 47
abbrev pub call_number : Call → ℕ
call_number Null = 0
call_number (Truth b) = 1
call_number (Int type n) = 2 + type_number type
call_number (TextBegin size) = 12
call_number (TextFragment true text) = 13
call_number (TextFragment false text) = 14
call_number TextEnd = 15
call_number (BinaryBegin size) = 16
call_number (BinaryFragment true bytes) = 17
call_number (BinaryFragment false bytes) = 18
call_number BinaryEnd = 19
call_number (Standalone name) = 20
call_number (TagHint tag) = 21
call_number (EnumBegin name) = 22
call_number (EnumEnd name) = 23
call_number (TaggedBegin name) = 24
call_number (TaggedEnd name) = 25
call_number (Begin head size) = 26 + head_number head
call_number (End head) = 31 + head_number head
call_number (PartBegin slot) = 36 + slot_number slot
call_number (PartEnd slot) = 42 + slot_number slot

-- the operands of a call
abbrev pub operands : Call → List ℕ
operands (Truth b) = tape_truth_bytes b
operands (Int type n) = int_bytes type n
operands (TextBegin size) = size_bytes size
operands (TextFragment borrowed text) = block text
operands (BinaryBegin size) = size_bytes size
operands (BinaryFragment borrowed bytes) = block bytes
operands (Standalone name) = name_bytes name
operands (TagHint tag) = block tag
operands (EnumBegin name) = name_bytes name
operands (EnumEnd name) = name_bytes name
operands (TaggedBegin name) = name_bytes name
operands (TaggedEnd name) = name_bytes name
operands (Begin head size) = tape_head_bytes head ++ size_bytes size
operands (End head) = tape_head_bytes head
operands (PartBegin slot) = slot_bytes slot
operands (PartEnd slot) = slot_bytes slot
operands call = []

-- the bytes of a call
abbrev pub call_bytes : Call → List ℕ
call_bytes call = call_number call ∷ operands call

-- the bytes of calls, one after another
unfoldable pub tape_of : List Call → List ℕ
tape_of calls = flat_map call_bytes calls
