-- The lines of a script, and the calls that they spell. A line is a word and then its fields, with one space before each
-- field.
use Rattle.std.specs.Prelude.{ℕ, zero, suc, ◌+◌, ◌^◌, ℤ, pos, negsuc, Bool, true, false, ◌==◌, nat_lt, if◌then◌else◌, List, [], ◌∷◌, Option, Some, None, option_map, option_and_then, codes, bytes_eq}
use Rattle.std.specs.List.{slice_split}
use Rattle.std.specs.Result.{result_ok}
use Rattle.std.specs.Str.{is_utf8}
use Rattle.std.specs.Str.Parse.{digits_value}
use Rattle.hex.specs.Hex.{decode_of}
use Rattle.sval_label.specs.Texts.{is_decimal}
use Rattle.sval_label.specs.Tags.{is_tag_name}
use Rattle.sval_label.specs.Ranges.{is_of_type, is_index}
use Rattle.sval_label.specs.Calls.{Call, Slot, Name, Label, Index, Tag, IntType}
use Rattle.sval_label.specs.Calls.{Null, Truth, Int, Standalone, TagHint, TextBegin, TextFragment, TextEnd, BinaryBegin, BinaryFragment, BinaryEnd, EnumBegin, EnumEnd, TaggedBegin, TaggedEnd, Begin, End, PartBegin, PartEnd}
use Rattle.sval_label.specs.Calls.{Seq, Map, Record, Tuple, RecordTuple, Item, Key, Value, Field, Place, FieldPlace}
use Rattle.sval_label.specs.Calls.{U8, U16, U32, U64, U128, I8, I16, I32, I64, I128}

-- the parts between the bytes that are this one
abbrev pub cut_at : ℕ → List ℕ → List (List ℕ)
cut_at byte bytes = slice_split (λ b. b == byte) bytes

-- x, if it passes the test
abbrev pub keep : {A : Type 0} → (A → Bool) → A → Option A
keep test x = if test x then Some x else None

-- ---- one field

-- the number of a decimal
abbrev pub natural : List ℕ → Option ℕ
natural given = option_map (digits_value 10) (keep is_decimal given)

-- the number below 0 that has this absolute value
abbrev pub negative : ℕ → Option ℤ
negative zero = None
negative (suc n) = Some (negsuc n)

-- a decimal, after `-` where it is below 0
abbrev pub signed_integer : List ℕ → Option ℤ
signed_integer [] = None
signed_integer (first ∷ rest) = if first == 45 then option_and_then negative (natural rest) else option_map pos (natural (first ∷ rest))

-- a decimal in the type's range
abbrev pub whole_number_of : IntType → List ℕ → Option ℤ
whole_number_of type part = option_and_then (keep (is_of_type type)) (signed_integer part)

-- `-` for none
abbrev pub or_dash : {A : Type 0} → (List ℕ → Option A) → List ℕ → Option (Option A)
or_dash read given = if bytes_eq given (codes "-") then Some None else option_map Some (read given)

-- a decimal of 64 bits, or `-` for no size
abbrev pub size : List ℕ → Option (Option ℕ)
size = or_dash (λ given. option_and_then (keep (λ n. nat_lt n (2 ^ 64))) (natural given))

-- `=` and an even number of hex digits, in either case
abbrev pub bytes : List ℕ → Option (List ℕ)
bytes [] = None
bytes (first ∷ digits) = if first == 61 then result_ok (decode_of digits) else None

-- bytes that are UTF-8
abbrev pub text : List ℕ → Option (List ℕ)
text given = option_and_then (keep is_utf8) (bytes given)

-- `true` or `false`
abbrev pub truth : List ℕ → Option Bool
truth given = if bytes_eq given (codes "true") then Some true else if bytes_eq given (codes "false") then Some false else None

-- one of the ten names
abbrev pub tag_named : List ℕ → Option Tag
tag_named = keep is_tag_name

-- what is read of a field, and then perhaps `:` and a tag
abbrev pub tagged_parts : {A B : Type 0} → (List ℕ → Option A) → (A → Option Tag → B) → List (List ℕ) → Option B
tagged_parts read make (part ∷ []) = option_map (λ x. make x None) (read part)
tagged_parts read make (part ∷ name ∷ []) = option_and_then (λ x. option_map (λ t. make x (Some t)) (tag_named name)) (read part)
tagged_parts read make parts = None

-- a label that is read is not static
abbrev pub label : List ℕ → Option Label
label given = tagged_parts text (λ t hint. record { text = t; tag = hint; is_static = false }) (cut_at 58 given)

-- a decimal in the range of indexes, and perhaps a tag
abbrev pub index : List ℕ → Option Index
index given = tagged_parts (λ part. option_and_then (keep is_index) (signed_integer part)) (λ z hint. record { number = z; tag = hint }) (cut_at 58 given)

-- ---- a line

-- what call the fields of a line spell, if any
abbrev pub LineForm : Type 0
LineForm = List (List ℕ) → Option Call

-- no field more
abbrev pub complete : Call → LineForm
complete call [] = Some call
complete call (given ∷ fields) = None

-- one field, and then what follows
abbrev pub field_then : {A : Type 0} → (List ℕ → Option A) → (A → LineForm) → LineForm
field_then read next [] = None
field_then read next (first ∷ fields) = option_and_then (λ x. next x fields) (read first)

-- a whole number in the type's range, and no field more
abbrev pub whole_number : IntType → LineForm
whole_number type = field_then (whole_number_of type) (λ z. complete (Int type z))

-- a tag, a label and an index, each where it is given
abbrev pub name : (Name → LineForm) → LineForm
name next = field_then (or_dash tag_named) (λ t. field_then (or_dash label) (λ l. field_then (or_dash index) (λ i. next (record { tag = t; label = l; index = i }))))

-- a tag, where it is given, and a label
abbrev pub record_part : (Slot → Call) → LineForm
record_part make = field_then (or_dash tag_named) (λ t. field_then label (λ l. complete (make (Field t l))))

-- a tag, where it is given, and an index
abbrev pub tuple_part : (Slot → Call) → LineForm
tuple_part make = field_then (or_dash tag_named) (λ t. field_then index (λ i. complete (make (Place t i))))

-- a tag, where it is given, a label and an index
abbrev pub record_tuple_part : (Slot → Call) → LineForm
record_tuple_part make = field_then (or_dash tag_named) (λ t. field_then label (λ l. field_then index (λ i. complete (make (FieldPlace t l i)))))

-- the 48 words, and the form of the fields behind each
unfoldable pub forms : List (List ℕ × LineForm)
forms = (codes "null", complete Null)
    ∷ (codes "bool", field_then truth (λ b. complete (Truth b)))
    ∷ (codes "u8", whole_number U8)
    ∷ (codes "u16", whole_number U16)
    ∷ (codes "u32", whole_number U32)
    ∷ (codes "u64", whole_number U64)
    ∷ (codes "u128", whole_number U128)
    ∷ (codes "i8", whole_number I8)
    ∷ (codes "i16", whole_number I16)
    ∷ (codes "i32", whole_number I32)
    ∷ (codes "i64", whole_number I64)
    ∷ (codes "i128", whole_number I128)
    ∷ (codes "text_begin", field_then size (λ n. complete (TextBegin n)))
    ∷ (codes "text_fragment", field_then text (λ t. complete (TextFragment true t)))
    ∷ (codes "text_fragment_computed", field_then text (λ t. complete (TextFragment false t)))
    ∷ (codes "text_end", complete TextEnd)
    ∷ (codes "binary_begin", field_then size (λ n. complete (BinaryBegin n)))
    ∷ (codes "binary_fragment", field_then bytes (λ b. complete (BinaryFragment true b)))
    ∷ (codes "binary_fragment_computed", field_then bytes (λ b. complete (BinaryFragment false b)))
    ∷ (codes "binary_end", complete BinaryEnd)
    ∷ (codes "map_begin", field_then size (λ n. complete (Begin Map n)))
    ∷ (codes "map_key_begin", complete (PartBegin Key))
    ∷ (codes "map_key_end", complete (PartEnd Key))
    ∷ (codes "map_value_begin", complete (PartBegin Value))
    ∷ (codes "map_value_end", complete (PartEnd Value))
    ∷ (codes "map_end", complete (End Map))
    ∷ (codes "seq_begin", field_then size (λ n. complete (Begin Seq n)))
    ∷ (codes "seq_value_begin", complete (PartBegin Item))
    ∷ (codes "seq_value_end", complete (PartEnd Item))
    ∷ (codes "seq_end", complete (End Seq))
    ∷ (codes "enum_begin", name (λ n. complete (EnumBegin n)))
    ∷ (codes "enum_end", name (λ n. complete (EnumEnd n)))
    ∷ (codes "tagged_begin", name (λ n. complete (TaggedBegin n)))
    ∷ (codes "tagged_end", name (λ n. complete (TaggedEnd n)))
    ∷ (codes "tag", name (λ n. complete (Standalone n)))
    ∷ (codes "tag_hint", field_then tag_named (λ t. complete (TagHint t)))
    ∷ (codes "record_begin", name (λ n. field_then size (λ s. complete (Begin (Record n) s))))
    ∷ (codes "record_value_begin", record_part PartBegin)
    ∷ (codes "record_value_end", record_part PartEnd)
    ∷ (codes "record_end", name (λ n. complete (End (Record n))))
    ∷ (codes "tuple_begin", name (λ n. field_then size (λ s. complete (Begin (Tuple n) s))))
    ∷ (codes "tuple_value_begin", tuple_part PartBegin)
    ∷ (codes "tuple_value_end", tuple_part PartEnd)
    ∷ (codes "tuple_end", name (λ n. complete (End (Tuple n))))
    ∷ (codes "record_tuple_begin", name (λ n. field_then size (λ s. complete (Begin (RecordTuple n) s))))
    ∷ (codes "record_tuple_value_begin", record_tuple_part PartBegin)
    ∷ (codes "record_tuple_value_end", record_tuple_part PartEnd)
    ∷ (codes "record_tuple_end", name (λ n. complete (End (RecordTuple n))))
    ∷ []

-- the form that stands for the word
abbrev pub find_form : List ℕ → List (List ℕ × LineForm) → Option LineForm
find_form word [] = None
find_form word (row ∷ rows) = if bytes_eq word row.0 then Some row.1 else find_form word rows

-- the call that a word of the table and its fields spell, if any
abbrev pub call_among : List (List ℕ × LineForm) → List (List ℕ) → Option Call
call_among table [] = None
call_among table (word ∷ fields) = option_and_then (λ form. form fields) (find_form word table)

-- the call that a word and its fields spell, if any
abbrev pub call_of_fields : List (List ℕ) → Option Call
call_of_fields = call_among forms

-- the call that a line spells, if any; the line stands without its line feed
unfoldable pub line_of : List ℕ → Option Call
line_of line = call_of_fields (cut_at 32 line)

-- ---- a script

-- the calls of all lines, or the first line, counted from 1, that spells none
pub data Lines : Type 0 where
  Good : List Call → Lines
  Bad : ℕ → Lines

-- a line's call before those of the lines after it
abbrev pub with_call : ℕ → Option Call → Lines → Lines
with_call n None after = Bad n
with_call n (Some call) (Good calls) = Good (call ∷ calls)
with_call n (Some call) (Bad m) = Bad m

-- nothing stands after the last line feed
abbrev pub after_last : ℕ → List ℕ → Lines
after_last n [] = Good []
after_last n (byte ∷ rest) = Bad n

-- the lines' calls, as each line is read; the first line has the number n
abbrev pub lines_from : (List ℕ → Option Call) → ℕ → List (List ℕ) → Lines
lines_from read n [] = Good []
lines_from read n (rest ∷ []) = after_last n rest
lines_from read n (line ∷ next ∷ more) = with_call n (read line) (lines_from read (n + 1) (next ∷ more))

-- the lines of a script, which end with line feeds
unfoldable pub lines : List ℕ → Lines
lines script = lines_from line_of 1 (cut_at 10 script)
