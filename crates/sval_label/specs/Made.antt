-- What a call of the program says.
use Rattle.std.specs.Prelude.{ℕ, pos, List, true, false}
use Rattle.std.specs.Borrow.{Bor}
use Rattle.sval_label.specs.declared.call.AnyCall.{AnyCall}
use Rattle.sval_label.specs.declared.call.AnyCall.TheVariants as made
use Rattle.sval_label.specs.SeenIndex.{seen_index}
use Rattle.sval_label.specs.SeenTags.{seen_ref_tag}
use Rattle.sval_label.specs.SeenName.{seen_option_tag, seen_name}
use Rattle.sval_label.specs.Calls.{Call, Null, Truth, Int, U8, U16, U32, U64, U128, I8, I16, I32, I64, I128, Standalone, TagHint, TextBegin, TextFragment, TextEnd, BinaryBegin, BinaryFragment, BinaryEnd, EnumBegin, EnumEnd, TaggedBegin, TaggedEnd, Begin, End, PartBegin, PartEnd, Seq, Map, Record, Tuple, RecordTuple, Item, Key, Value, Field, Place, FieldPlace}

-- the call that a call of the program is; `text` and `bytes` read a borrowed fragment
abbrev pub call_of : {T B : Type 0} → (T → List ℕ) → (B → List ℕ) → AnyCall T B → Call
call_of text bytes made.Null = Null
call_of text bytes (made.Bool b) = Truth b
call_of text bytes (made.U8 n) = Int U8 (pos n)
call_of text bytes (made.U16 n) = Int U16 (pos n)
call_of text bytes (made.U32 n) = Int U32 (pos n)
call_of text bytes (made.U64 n) = Int U64 (pos n)
call_of text bytes (made.U128 n) = Int U128 (pos n)
call_of text bytes (made.I8 n) = Int I8 n
call_of text bytes (made.I16 n) = Int I16 n
call_of text bytes (made.I32 n) = Int I32 n
call_of text bytes (made.I64 n) = Int I64 n
call_of text bytes (made.I128 n) = Int I128 n
call_of text bytes (made.TextBegin size) = TextBegin size
call_of text bytes (made.TextFragment fragment) = TextFragment true (text fragment)
call_of text bytes (made.TextFragmentComputed fragment) = TextFragment false fragment.now
call_of text bytes made.TextEnd = TextEnd
call_of text bytes (made.BinaryBegin size) = BinaryBegin size
call_of text bytes (made.BinaryFragment fragment) = BinaryFragment true (bytes fragment)
call_of text bytes (made.BinaryFragmentComputed fragment) = BinaryFragment false fragment.now
call_of text bytes made.BinaryEnd = BinaryEnd
call_of text bytes (made.MapBegin size) = Begin Map size
call_of text bytes made.MapKeyBegin = PartBegin Key
call_of text bytes made.MapKeyEnd = PartEnd Key
call_of text bytes made.MapValueBegin = PartBegin Value
call_of text bytes made.MapValueEnd = PartEnd Value
call_of text bytes made.MapEnd = End Map
call_of text bytes (made.SeqBegin size) = Begin Seq size
call_of text bytes made.SeqValueBegin = PartBegin Item
call_of text bytes made.SeqValueEnd = PartEnd Item
call_of text bytes made.SeqEnd = End Seq
call_of text bytes (made.EnumBegin name) = EnumBegin (seen_name name)
call_of text bytes (made.EnumEnd name) = EnumEnd (seen_name name)
call_of text bytes (made.TaggedBegin name) = TaggedBegin (seen_name name)
call_of text bytes (made.TaggedEnd name) = TaggedEnd (seen_name name)
call_of text bytes (made.Tag name) = Standalone (seen_name name)
call_of text bytes (made.TagHint tag) = TagHint (seen_ref_tag tag)
call_of text bytes (made.RecordBegin name size) = Begin (Record (seen_name name)) size
call_of text bytes (made.RecordValueBegin tag label) = PartBegin (Field (seen_option_tag tag) label.now)
call_of text bytes (made.RecordValueEnd tag label) = PartEnd (Field (seen_option_tag tag) label.now)
call_of text bytes (made.RecordEnd name) = End (Record (seen_name name))
call_of text bytes (made.TupleBegin name size) = Begin (Tuple (seen_name name)) size
call_of text bytes (made.TupleValueBegin tag index) = PartBegin (Place (seen_option_tag tag) (seen_index index.now))
call_of text bytes (made.TupleValueEnd tag index) = PartEnd (Place (seen_option_tag tag) (seen_index index.now))
call_of text bytes (made.TupleEnd name) = End (Tuple (seen_name name))
call_of text bytes (made.RecordTupleBegin name size) = Begin (RecordTuple (seen_name name)) size
call_of text bytes (made.RecordTupleValueBegin tag label index) = PartBegin (FieldPlace (seen_option_tag tag) label.now (seen_index index.now))
call_of text bytes (made.RecordTupleValueEnd tag label index) = PartEnd (FieldPlace (seen_option_tag tag) label.now (seen_index index.now))
call_of text bytes (made.RecordTupleEnd name) = End (RecordTuple (seen_name name))

-- the same where borrowed fragments are plain references
abbrev pub lent_call : AnyCall (Bor (List ℕ)) (Bor (List ℕ)) → Call
lent_call call = call_of (λ text. text.now) (λ bytes. bytes.now) call
