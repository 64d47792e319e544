-- What a token is as a call, and when two tokens are equal.
use Rattle.std.specs.Prelude.{pos, true, false, List, option_map, map}
use Rattle.sval_label.specs.SeenTags.{seen_tag}
use Rattle.sval_label.specs.SeenIndex.{seen_index}
use Rattle.sval_label.specs.Calls as calls
use Rattle.sval_label.specs.Calls.{Call, Null, Truth, Int, U8, U16, U32, U64, U128, I8, I16, I32, I64, I128, Standalone, TagHint, TextBegin, TextFragment, TextEnd, BinaryBegin, BinaryFragment, BinaryEnd, EnumBegin, EnumEnd, TaggedBegin, TaggedEnd, Begin, End, PartBegin, PartEnd, Seq, Map, Record, Tuple, RecordTuple, Item, Key, Value, Field, Place, FieldPlace}
use Rattle.sval_core.specs.Spells.{bare_name, bare_head, bare_slot}
use Rattle.sval_check.specs.declared.token.TokenName.{TokenName}
use Rattle.sval_check.specs.declared.token.Token.{Token}
use Rattle.sval_check.specs.declared.token.Token.TheVariants as token

-- the name that a token gives
abbrev pub token_name : TokenName → calls.Name
token_name name = record { tag = option_map seen_tag name.tag; label = name.label; index = option_map seen_index name.index }

-- the call that a token is
abbrev pub token_call : Token → Call
token_call token.Null = Null
token_call (token.Bool b) = Truth b
token_call (token.U8 n) = Int U8 (pos n)
token_call (token.U16 n) = Int U16 (pos n)
token_call (token.U32 n) = Int U32 (pos n)
token_call (token.U64 n) = Int U64 (pos n)
token_call (token.U128 n) = Int U128 (pos n)
token_call (token.I8 n) = Int I8 n
token_call (token.I16 n) = Int I16 n
token_call (token.I32 n) = Int I32 n
token_call (token.I64 n) = Int I64 n
token_call (token.I128 n) = Int I128 n
token_call (token.TextBegin size) = TextBegin size
token_call (token.TextFragment fragment) = TextFragment true fragment.now
token_call (token.TextFragmentComputed fragment) = TextFragment false fragment
token_call token.TextEnd = TextEnd
token_call (token.BinaryBegin size) = BinaryBegin size
token_call (token.BinaryFragment fragment) = BinaryFragment true fragment.now
token_call (token.BinaryFragmentComputed fragment) = BinaryFragment false fragment
token_call token.BinaryEnd = BinaryEnd
token_call (token.MapBegin size) = Begin Map size
token_call token.MapKeyBegin = PartBegin Key
token_call token.MapKeyEnd = PartEnd Key
token_call token.MapValueBegin = PartBegin Value
token_call token.MapValueEnd = PartEnd Value
token_call token.MapEnd = End Map
token_call (token.SeqBegin size) = Begin Seq size
token_call token.SeqValueBegin = PartBegin Item
token_call token.SeqValueEnd = PartEnd Item
token_call token.SeqEnd = End Seq
token_call (token.EnumBegin name) = EnumBegin (token_name name)
token_call (token.EnumEnd name) = EnumEnd (token_name name)
token_call (token.TaggedBegin name) = TaggedBegin (token_name name)
token_call (token.TaggedEnd name) = TaggedEnd (token_name name)
token_call (token.Tag name) = Standalone (token_name name)
token_call (token.TagHint tag) = TagHint (seen_tag tag)
token_call (token.RecordBegin name size) = Begin (Record (token_name name)) size
token_call (token.RecordValueBegin tag label) = PartBegin (Field (option_map seen_tag tag) label)
token_call (token.RecordValueEnd tag label) = PartEnd (Field (option_map seen_tag tag) label)
token_call (token.RecordEnd name) = End (Record (token_name name))
token_call (token.TupleBegin name size) = Begin (Tuple (token_name name)) size
token_call (token.TupleValueBegin tag index) = PartBegin (Place (option_map seen_tag tag) (seen_index index))
token_call (token.TupleValueEnd tag index) = PartEnd (Place (option_map seen_tag tag) (seen_index index))
token_call (token.TupleEnd name) = End (Tuple (token_name name))
token_call (token.RecordTupleBegin name size) = Begin (RecordTuple (token_name name)) size
token_call (token.RecordTupleValueBegin tag label index) = PartBegin (FieldPlace (option_map seen_tag tag) label (seen_index index))
token_call (token.RecordTupleValueEnd tag label index) = PartEnd (FieldPlace (option_map seen_tag tag) label (seen_index index))
token_call (token.RecordTupleEnd name) = End (RecordTuple (token_name name))

-- the calls that tokens are, one for each
abbrev pub token_calls : List Token → List Call
token_calls tokens = map token_call tokens

-- what counts of a call where two tokens are compared: all but the tags of labels and indexes, and whether labels are static
abbrev pub compared : Call → Call
compared (Standalone name) = Standalone (bare_name name)
compared (EnumBegin name) = EnumBegin (bare_name name)
compared (EnumEnd name) = EnumEnd (bare_name name)
compared (TaggedBegin name) = TaggedBegin (bare_name name)
compared (TaggedEnd name) = TaggedEnd (bare_name name)
compared (Begin head size) = Begin (bare_head head) size
compared (End head) = End (bare_head head)
compared (PartBegin slot) = PartBegin (bare_slot slot)
compared (PartEnd slot) = PartEnd (bare_slot slot)
compared call = call

-- the same of calls one after another
abbrev pub all_compared : List Call → List Call
all_compared calls = map compared calls
