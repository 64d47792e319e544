-- Calls that were read from a tape: what each is seen as.
use Rattle.std.specs.Prelude.{ℕ, ℤ, pos, codes, false, Option, Some, None, option_map, if◌then◌else◌}
use Rattle.sval_label.specs.Calls as call
use Rattle.sval_label.specs.Calls.{Call, Tag, Index, Head, Slot, Name, Label}
use Rattle.sval_label.specs.Grouped.{int_call}
use Rattle.sval_label.specs.Ranges.{is_of_type}
use Rattle.sval_tape.specs.declared.ints.IntType.{IntType}
use Rattle.sval_tape.specs.declared.ints.IntType.TheVariants as int_type
use Rattle.sval_tape.specs.Reading.{type_unzigzag}
use Rattle.sval_tape.specs.declared.read_call.Alone.{Alone}
use Rattle.sval_tape.specs.declared.read_call.Alone.TheVariants as alone
use Rattle.sval_tape.specs.declared.read_call.Opening.{Opening}
use Rattle.sval_tape.specs.declared.read_call.Opening.TheVariants as opening
use Rattle.sval_tape.specs.declared.read_call.Named.{Named}
use Rattle.sval_tape.specs.declared.read_call.Named.TheVariants as named
use Rattle.sval_tape.specs.declared.read_call.Container.{Container}
use Rattle.sval_tape.specs.declared.read_call.Container.TheVariants as container
use Rattle.sval_tape.specs.declared.read_call.Side.{Side}
use Rattle.sval_tape.specs.declared.read_call.Side.TheVariants as side
use Rattle.sval_tape.specs.declared.read_call.TagRead.{TagRead}
use Rattle.sval_tape.specs.declared.read_call.TagRead.TheVariants as tag
use Rattle.sval_tape.specs.declared.read_call.IndexNumber.{IndexNumber}
use Rattle.sval_tape.specs.declared.read_call.IndexNumber.TheVariants as index_number
use Rattle.sval_tape.specs.declared.read_call.IndexRead.{IndexRead}
use Rattle.sval_tape.specs.declared.read_call.LabelRead.{LabelRead}
use Rattle.sval_tape.specs.declared.read_call.NameRead.{NameRead}
use Rattle.sval_tape.specs.declared.read_call.CallRead.{CallRead}
use Rattle.sval_tape.specs.declared.read_call.CallRead.TheVariants as made

-- the type as the definitions name it
abbrev pub tape_int_type : IntType → call.IntType
tape_int_type int_type.U8 = call.U8
tape_int_type int_type.U16 = call.U16
tape_int_type int_type.U32 = call.U32
tape_int_type int_type.U64 = call.U64
tape_int_type int_type.U128 = call.U128
tape_int_type int_type.I8 = call.I8
tape_int_type int_type.I16 = call.I16
tape_int_type int_type.I32 = call.I32
tape_int_type int_type.I64 = call.I64
tape_int_type int_type.I128 = call.I128

-- the call of a number of this type that a number stands for, where it is in the type's range
abbrev pub int_value : call.IntType → ℕ → Option Call
int_value type n = if is_of_type type (type_unzigzag type n) then Some (call.Int type (type_unzigzag type n)) else None

-- a call without operands
abbrev pub tape_alone_call : Alone → Call
tape_alone_call alone.Null = call.Null
tape_alone_call alone.TextEnd = call.TextEnd
tape_alone_call alone.BinaryEnd = call.BinaryEnd
tape_alone_call alone.SeqEnd = call.End call.Seq
tape_alone_call alone.MapEnd = call.End call.Map
tape_alone_call alone.ItemBegin = call.PartBegin call.Item
tape_alone_call alone.ItemEnd = call.PartEnd call.Item
tape_alone_call alone.KeyBegin = call.PartBegin call.Key
tape_alone_call alone.KeyEnd = call.PartEnd call.Key
tape_alone_call alone.ValueBegin = call.PartBegin call.Value
tape_alone_call alone.ValueEnd = call.PartEnd call.Value

-- a begin with a size
abbrev pub tape_opening_call : Opening → Option ℕ → Call
tape_opening_call opening.Text size = call.TextBegin size
tape_opening_call opening.Binary size = call.BinaryBegin size
tape_opening_call opening.Seq size = call.Begin call.Seq size
tape_opening_call opening.Map size = call.Begin call.Map size

-- a call with a name
abbrev pub tape_named_call : Named → Name → Call
tape_named_call named.Tag name = call.Standalone name
tape_named_call named.EnumBegin name = call.EnumBegin name
tape_named_call named.EnumEnd name = call.EnumEnd name
tape_named_call named.TaggedBegin name = call.TaggedBegin name
tape_named_call named.TaggedEnd name = call.TaggedEnd name
tape_named_call named.RecordEnd name = call.End (call.Record name)
tape_named_call named.TupleEnd name = call.End (call.Tuple name)
tape_named_call named.RecordTupleEnd name = call.End (call.RecordTuple name)

-- a container with a name
abbrev pub tape_head_of : Container → Name → Head
tape_head_of container.Record name = call.Record name
tape_head_of container.Tuple name = call.Tuple name
tape_head_of container.RecordTuple name = call.RecordTuple name

-- the begin or the end of a part
abbrev pub tape_part_call : Side → Slot → Call
tape_part_call side.Begin slot = call.PartBegin slot
tape_part_call side.End slot = call.PartEnd slot

-- the text of a tag
abbrev pub tag_read : TagRead → Tag
tag_read tag.RustOptionSome = codes "RUST_OPTION_SOME"
tag_read tag.RustOptionNone = codes "RUST_OPTION_NONE"
tag_read tag.RustUnit = codes "RUST_UNIT"
tag_read tag.Number = codes "NUMBER"
tag_read tag.ConstantSize = codes "CONSTANT_SIZE"
tag_read tag.ValueIdent = codes "VALUE_IDENT"
tag_read tag.ValueOffset = codes "VALUE_OFFSET"
tag_read tag.JsonValue = codes "JSON_VALUE"
tag_read tag.JsonText = codes "JSON_TEXT"
tag_read tag.JsonNumber = codes "JSON_NUMBER"

-- the number of an index
abbrev pub index_number_read : IndexNumber → ℤ
index_number_read (index_number.Unsigned n) = pos n
index_number_read (index_number.Signed n) = n

-- the index of a number and a tag
abbrev pub index_read : IndexRead → Index
index_read index = record { number = index_number_read index.number; tag = option_map tag_read index.tag }

-- the label of a text and a tag
abbrev pub label_read : LabelRead → Label
label_read label = record { text = label.text.now; tag = option_map tag_read label.tag; is_static = false }

-- the name of its three parts
abbrev pub name_read : NameRead → Name
name_read name = record { tag = option_map tag_read name.tag; label = option_map label_read name.label; index = option_map index_read name.index }

-- the call of what was read
abbrev pub call_read : CallRead → Call
call_read (made.Alone word) = tape_alone_call word
call_read (made.Bool value) = call.Truth value
call_read (made.Int number) = int_call number
call_read (made.Opening word size) = tape_opening_call word size
call_read (made.Text borrowed text) = call.TextFragment borrowed text.now
call_read (made.Binary borrowed bytes) = call.BinaryFragment borrowed bytes.now
call_read (made.TagHint tag) = call.TagHint (tag_read tag)
call_read (made.Named word name) = tape_named_call word (name_read name)
call_read (made.Begin word name size) = call.Begin (tape_head_of word (name_read name)) size
call_read (made.Field word tag label) = tape_part_call word (call.Field (option_map tag_read tag) (label_read label))
call_read (made.Place word tag index) = tape_part_call word (call.Place (option_map tag_read tag) (index_read index))
call_read (made.FieldPlace word tag label index) = tape_part_call word (call.FieldPlace (option_map tag_read tag) (label_read label) (index_read index))
