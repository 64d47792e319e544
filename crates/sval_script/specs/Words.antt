-- The words of lines: what form each has, and where its text stands in the table.
use Rattle.std.specs.Prelude.{ℕ, ◌+◌, ◌*◌, ◌/◌, ◌%◌, Bool, true, false, Option, List, [], get_or, map, length}
use Rattle.std.specs.Borrow.{Bor}
use Rattle.sval_label.specs.Calls as call
use Rattle.sval_label.specs.Calls.{Call, IntType, Head, Slot, Name}
use Rattle.sval_script.specs.Lines.{LineForm, complete, field_then, whole_number, truth, size, text, bytes, name, tag_named, record_part, tuple_part, record_tuple_part}
use Rattle.sval_script.specs.declared.word.Word.{Word}
use Rattle.sval_script.specs.declared.word.Word.TheVariants as word
use Rattle.sval_script.specs.declared.word.Alone.{Alone}
use Rattle.sval_script.specs.declared.word.Alone.TheVariants as alone
use Rattle.sval_script.specs.declared.word.NumberType.{NumberType}
use Rattle.sval_script.specs.declared.word.NumberType.TheVariants as number
use Rattle.sval_script.specs.declared.word.Opening.{Opening}
use Rattle.sval_script.specs.declared.word.Opening.TheVariants as opening
use Rattle.sval_script.specs.declared.word.Lifetime.{Lifetime}
use Rattle.sval_script.specs.declared.word.Lifetime.TheVariants as lifetime
use Rattle.sval_script.specs.declared.word.Named.{Named}
use Rattle.sval_script.specs.declared.word.Named.TheVariants as named
use Rattle.sval_script.specs.declared.word.NamedOpening.{NamedOpening}
use Rattle.sval_script.specs.declared.word.NamedOpening.TheVariants as named_opening
use Rattle.sval_script.specs.declared.word.Side.{Side}
use Rattle.sval_script.specs.declared.word.Side.TheVariants as side
use Rattle.sval_script.specs.declared.word.TheConstants.{WORDS, SLOTS}

-- the call of a word alone
abbrev pub alone_call : Alone → Call
alone_call alone.Null = call.Null
alone_call alone.TextEnd = call.TextEnd
alone_call alone.BinaryEnd = call.BinaryEnd
alone_call alone.MapKeyBegin = call.PartBegin call.Key
alone_call alone.MapKeyEnd = call.PartEnd call.Key
alone_call alone.MapValueBegin = call.PartBegin call.Value
alone_call alone.MapValueEnd = call.PartEnd call.Value
alone_call alone.MapEnd = call.End call.Map
alone_call alone.SeqValueBegin = call.PartBegin call.Item
alone_call alone.SeqValueEnd = call.PartEnd call.Item
alone_call alone.SeqEnd = call.End call.Seq

-- the type as the definitions name it
abbrev pub type_of : NumberType → IntType
type_of number.U8 = call.U8
type_of number.U16 = call.U16
type_of number.U32 = call.U32
type_of number.U64 = call.U64
type_of number.U128 = call.U128
type_of number.I8 = call.I8
type_of number.I16 = call.I16
type_of number.I32 = call.I32
type_of number.I64 = call.I64
type_of number.I128 = call.I128

-- the call of a word and a size
abbrev pub opening_call : Opening → Option ℕ → Call
opening_call opening.TextBegin n = call.TextBegin n
opening_call opening.BinaryBegin n = call.BinaryBegin n
opening_call opening.MapBegin n = call.Begin call.Map n
opening_call opening.SeqBegin n = call.Begin call.Seq n

-- whether a stream may keep the fragment
abbrev pub is_kept : Lifetime → Bool
is_kept lifetime.Borrowed = true
is_kept lifetime.Computed = false

-- the call of a word and a name
abbrev pub word_call : Named → Name → Call
word_call named.EnumBegin n = call.EnumBegin n
word_call named.EnumEnd n = call.EnumEnd n
word_call named.TaggedBegin n = call.TaggedBegin n
word_call named.TaggedEnd n = call.TaggedEnd n
word_call named.Tag n = call.Standalone n
word_call named.RecordEnd n = call.End (call.Record n)
word_call named.TupleEnd n = call.End (call.Tuple n)
word_call named.RecordTupleEnd n = call.End (call.RecordTuple n)

-- what a container of this name begins with
abbrev pub head_of : NamedOpening → Name → Head
head_of named_opening.RecordBegin n = call.Record n
head_of named_opening.TupleBegin n = call.Tuple n
head_of named_opening.RecordTupleBegin n = call.RecordTuple n

-- the begin or the end of a part
abbrev pub part_call : Side → Slot → Call
part_call side.Begin slot = call.PartBegin slot
part_call side.End slot = call.PartEnd slot

-- what fields make a call of the word
abbrev pub form_of_word : Word → LineForm
form_of_word (word.Alone w) = complete (alone_call w)
form_of_word word.Bool = field_then truth (λ b. complete (call.Truth b))
form_of_word (word.Number type) = whole_number (type_of type)
form_of_word (word.Opening w) = field_then size (λ n. complete (opening_call w n))
form_of_word (word.TextFragment life) = field_then text (λ t. complete (call.TextFragment (is_kept life) t))
form_of_word (word.BinaryFragment life) = field_then bytes (λ b. complete (call.BinaryFragment (is_kept life) b))
form_of_word (word.Named w) = name (λ n. complete (word_call w n))
form_of_word word.TagHint = field_then tag_named (λ t. complete (call.TagHint t))
form_of_word (word.NamedOpening w) = name (λ n. field_then size (λ s. complete (call.Begin (head_of w n) s)))
form_of_word (word.Field side) = record_part (part_call side)
form_of_word (word.Place side) = tuple_part (part_call side)
form_of_word (word.FieldPlace side) = record_tuple_part (part_call side)

-- a table of words and their texts, whose references are read
abbrev pub texts_and_words : List (Bor (List ℕ) × Word) → List (List ℕ × Word)
texts_and_words = map (λ row. (row.0.now, row.1))

-- the code's table, whose references are read
abbrev pub word_table : List (List ℕ × Word)
word_table = map (λ row. (row.0.now, row.1)) WORDS

-- the place of a text, by its first byte, the one in its middle and its length
abbrev pub word_place : List ℕ → ℕ
word_place text = (5 * get_or text 0 0 + get_or text (length text / 2) 0 + 8 * (length text % 32)) % 256

-- the text of the word at a place
abbrev pub word_text_at : ℕ → List ℕ
word_text_at place = get_or (map (λ row. row.0) word_table) (get_or SLOTS place 0) []
