-- What readers find in a value, by the calls that it makes and by whether it refuses.
use Rattle.std.specs.Prelude.{ℕ, ℤ, Bool, true, false, not, ◌&&◌, ◌||◌, List, [], ◌∷◌, is_some, Option, Some, None, option_and_then, find, filter_map, if◌then◌else◌}
use Rattle.std.specs.List.{list_all}
use Rattle.std.specs.Option.{option_or}
use Rattle.sval_label.specs.Calls.{Tag, Label, IntType, Head, Call}
use Rattle.sval_label.specs.Texts.{is_empty}
use Rattle.sval_label.specs.Ranges.{is_of_type}
use Rattle.sval_core.specs.Names.{number_tag, says_none}
use Rattle.sval_core.specs.Law.{Emission}

-- what stands around a value and says nothing of it
abbrev pub is_around : Call → Bool
is_around (Call.TaggedBegin _) = true
is_around (Call.TaggedEnd _) = true
is_around (Call.EnumBegin _) = true
is_around (Call.EnumEnd _) = true
is_around (Call.TagHint _) = true
is_around _ = false

-- that, and a fragment of a binary that is empty
abbrev pub is_passed_over : Call → Bool
is_passed_over (Call.BinaryFragment _ bytes) = is_empty bytes
is_passed_over call = is_around call

-- ---- picking from what is read

-- the last one, if there is any
abbrev pub last_of : {T : Type 0} → List T → Option T
last_of [] = None
last_of (x ∷ []) = Some x
last_of (x ∷ y ∷ xs) = last_of (y ∷ xs)

-- the one that there is, where there is no second one
abbrev pub only_of : {T : Type 0} → List T → Option T
only_of (x ∷ []) = Some x
only_of _ = None

-- What is picked from all that is read: nothing where the value refuses, and where some call is neither read nor passed over.
abbrev pub found : {T : Type 0} → (List T → Option T) → (Call → Option T) → (Call → Bool) → Emission → Option T
found pick read over e =
    if not e.refuses && list_all (λ call. is_some (read call) || over call) e.calls then pick (filter_map read e.calls) else None

-- the last of what is read, where every other call is passed over and the value doesn't refuse
abbrev pub read_last : {T : Type 0} → (Call → Option T) → Emission → Option T
read_last read = found last_of read is_passed_over

-- ---- truth values and whole numbers

-- the truth value that a call is, if it is one
abbrev pub truth_of : Call → Option Bool
truth_of (Call.Truth b) = Some b
truth_of _ = None

-- a number of one of these types
abbrev pub number_of : (IntType → Bool) → Call → Option ℤ
number_of is_wanted (Call.Int type n) = if is_wanted type then Some n else None
number_of is_wanted _ = None

-- the two types are the same
abbrev pub is_type : IntType → IntType → Bool
is_type IntType.U8 IntType.U8 = true
is_type IntType.U16 IntType.U16 = true
is_type IntType.U32 IntType.U32 = true
is_type IntType.U64 IntType.U64 = true
is_type IntType.U128 IntType.U128 = true
is_type IntType.I8 IntType.I8 = true
is_type IntType.I16 IntType.I16 = true
is_type IntType.I32 IntType.I32 = true
is_type IntType.I64 IntType.I64 = true
is_type IntType.I128 IntType.I128 = true
is_type _ _ = false

-- the type has no sign
abbrev pub has_no_sign : IntType → Bool
has_no_sign IntType.U8 = true
has_no_sign IntType.U16 = true
has_no_sign IntType.U32 = true
has_no_sign IntType.U64 = true
has_no_sign IntType.U128 = true
has_no_sign _ = false

-- the last truth value, where every other call is one too or passed over and the value doesn't refuse
abbrev pub to_bool : Emission → Option Bool
to_bool = read_last truth_of

-- the last `i128`, where every other call is one too or passed over and the value doesn't refuse
abbrev pub to_i128 : Emission → Option ℤ
to_i128 = read_last (number_of (is_type IntType.I128))

-- the same of numbers without a sign, of any type, since these are lowered to the largest one
abbrev pub to_u128 : Emission → Option ℤ
to_u128 = read_last (number_of has_no_sign)

-- the number, where it is in the type's range
abbrev pub in_range : IntType → Option ℤ → Option ℤ
in_range type n = option_and_then (λ n. if is_of_type type n then Some n else None) n

-- a smaller type with a sign: its own calls, or else what the largest one finds
abbrev pub to_signed : IntType → Emission → Option ℤ
to_signed type e = option_or (read_last (number_of (is_type type)) e) (in_range type (to_i128 e))

-- a smaller type without one: what the largest one finds
abbrev pub to_unsigned : IntType → Emission → Option ℤ
to_unsigned type e = in_range type (to_u128 e)

-- the last `i8`, found as `to_i128` finds its own, or else what that finds, where it is in range
abbrev pub to_i8 : Emission → Option ℤ
to_i8 = to_signed IntType.I8

-- the last `i16`, found as `to_i128` finds its own, or else what that finds, where it is in range
abbrev pub to_i16 : Emission → Option ℤ
to_i16 = to_signed IntType.I16

-- the last `i32`, found as `to_i128` finds its own, or else what that finds, where it is in range
abbrev pub to_i32 : Emission → Option ℤ
to_i32 = to_signed IntType.I32

-- the last `i64`, found as `to_i128` finds its own, or else what that finds, where it is in range
abbrev pub to_i64 : Emission → Option ℤ
to_i64 = to_signed IntType.I64

-- what `to_u128` finds, where that is in the range of `u8`
abbrev pub to_u8 : Emission → Option ℤ
to_u8 = to_unsigned IntType.U8

-- what `to_u128` finds, where that is in the range of `u16`
abbrev pub to_u16 : Emission → Option ℤ
to_u16 = to_unsigned IntType.U16

-- what `to_u128` finds, where that is in the range of `u32`
abbrev pub to_u32 : Emission → Option ℤ
to_u32 = to_unsigned IntType.U32

-- what `to_u128` finds, where that is in the range of `u64`
abbrev pub to_u64 : Emission → Option ℤ
to_u64 = to_unsigned IntType.U64

-- ---- texts and binaries that can be lent

-- the text of a label, if there is one and it lives as long as the program
abbrev pub static_text : Option Label → Option (List ℕ)
static_text (Some label) = if label.is_static then Some label.text else None
static_text None = None

-- a borrowed fragment, or a tag by itself whose label lives as long as the program and stands for a value
abbrev pub lent_text : Call → Option (List ℕ)
lent_text (Call.TextFragment true text) = Some text
lent_text (Call.Standalone name) = if says_none name.tag then None else static_text name.label
lent_text _ = None

-- what may stand beside the text: what is passed over, and the begin and the end of a text
abbrev pub is_beside_text : Call → Bool
is_beside_text (Call.TextBegin _) = true
is_beside_text Call.TextEnd = true
is_beside_text call = is_passed_over call

-- the one text that is lent, where every other call may stand beside it and the value doesn't refuse
abbrev pub to_text : Emission → Option (List ℕ)
to_text = found only_of lent_text is_beside_text

-- the bytes of a borrowed fragment
abbrev pub lent_binary : Call → Option (List ℕ)
lent_binary (Call.BinaryFragment true bytes) = Some bytes
lent_binary _ = None

-- what may stand beside the bytes: what says nothing of a value, and the begin and the end of a binary
abbrev pub is_beside_binary : Call → Bool
is_beside_binary (Call.BinaryBegin _) = true
is_beside_binary Call.BinaryEnd = true
is_beside_binary call = is_around call

-- the bytes of the one fragment that is lent, where every other call may stand beside it and the value doesn't refuse
abbrev pub to_binary : Emission → Option (List ℕ)
to_binary = found only_of lent_binary is_beside_binary

-- ---- the tag

-- calls at which the tag isn't known yet
abbrev pub says_no_tag : Call → Bool
says_no_tag (Call.TagHint _) = true
says_no_tag (Call.TaggedEnd _) = true
says_no_tag (Call.EnumEnd _) = true
says_no_tag (Call.BinaryFragment _ bytes) = is_empty bytes
says_no_tag _ = false

-- the tag of a container's name; a sequence and a map give none
abbrev pub head_tag : Head → Option Tag
head_tag Head.Seq = None
head_tag Head.Map = None
head_tag (Head.Record name) = name.tag
head_tag (Head.Tuple name) = name.tag
head_tag (Head.RecordTuple name) = name.tag

-- the tag that a call gives
abbrev pub call_tag : Call → Option Tag
call_tag (Call.EnumBegin name) = name.tag
call_tag (Call.TaggedBegin name) = name.tag
call_tag (Call.Begin head _) = head_tag head
call_tag (Call.Standalone name) = name.tag
call_tag (Call.Int _ _) = Some number_tag
call_tag _ = None

-- what the first call gives at which the tag is known, whether the value refuses or not
abbrev pub first_tag : Emission → Option Tag
first_tag e = option_and_then call_tag (find (λ call. not (says_no_tag call)) e.calls)
