-- The calls that a tape gives back, and what reading one answers.
use Rattle.std.specs.Prelude.{◌≡◌, ℕ, ◌<◌, ◌^◌, ⊤, true, false, List, ◌++◌, length, take, drop, Option, IfSome}
use Rattle.std.specs.List.{AllByRecursion}
use Rattle.std.specs.Str.{is_utf8}
use Rattle.sval_label.specs.Calls.{Tag, Label, Index, Name, Head, Slot, Call}
use Rattle.sval_label.specs.Calls as call
use Rattle.sval_label.specs.Ranges.{is_of_type, is_index}
use Rattle.sval_label.specs.Tags.{is_tag_name}
use Rattle.sval_tape.specs.Tapes.{call_bytes, tape_of}

-- bytes whose number has 128 bits
abbrev pub IsBlock : List ℕ → Type 0
IsBlock bytes = length bytes < 2 ^ 128

-- a text in UTF-8
abbrev pub IsTapedText : List ℕ → Type 0
IsTapedText text = IsBlock text × (is_utf8 text ≡ true)

-- a tag of the ten
abbrev pub IsTapedTag : Tag → Type 0
IsTapedTag tag = IsBlock tag × (is_tag_name tag ≡ true)

-- no size, or one of 64 bits
abbrev pub IsTapedSize : Option ℕ → Type 0
IsTapedSize size = IfSome size (λ n. n < 2 ^ 64)

-- a label that isn't static, since no text of a tape is
pub record IsTapedLabel (label : Label) : Type 0 where
  pub text : IsTapedText label.text
  pub tag : IfSome label.tag IsTapedTag
  pub not_static : label.is_static ≡ false

-- an index in the range of indexes
pub record IsTapedIndex (index : Index) : Type 0 where
  pub number : is_index index.number ≡ true
  pub tag : IfSome index.tag IsTapedTag

-- a name whose parts are taped, each where it is given
pub record IsTapedName (name : Name) : Type 0 where
  pub tag : IfSome name.tag IsTapedTag
  pub label : IfSome name.label IsTapedLabel
  pub index : IfSome name.index IsTapedIndex

-- a container whose name is taped, where its kind has one
abbrev pub IsTapedHead : Head → Type 0
IsTapedHead (call.Record name) = IsTapedName name
IsTapedHead (call.Tuple name) = IsTapedName name
IsTapedHead (call.RecordTuple name) = IsTapedName name
IsTapedHead _ = ⊤

-- a part whose tag, label and index are taped, as far as its kind has them
abbrev pub IsTapedSlot : Slot → Type 0
IsTapedSlot (call.Field tag label) = IfSome tag IsTapedTag × IsTapedLabel label
IsTapedSlot (call.Place tag index) = IfSome tag IsTapedTag × IsTapedIndex index
IsTapedSlot (call.FieldPlace tag label index) = IfSome tag IsTapedTag × IsTapedLabel label × IsTapedIndex index
IsTapedSlot _ = ⊤

-- a call that a tape gives back: numbers in range, texts in UTF-8, tags of the ten, and no static label
abbrev pub IsTapedCall : Call → Type 0
IsTapedCall (call.Int type n) = is_of_type type n ≡ true
IsTapedCall (call.TextBegin size) = IsTapedSize size
IsTapedCall (call.TextFragment borrowed text) = IsTapedText text
IsTapedCall (call.BinaryBegin size) = IsTapedSize size
IsTapedCall (call.BinaryFragment borrowed bytes) = IsBlock bytes
IsTapedCall (call.Standalone name) = IsTapedName name
IsTapedCall (call.TagHint tag) = IsTapedTag tag
IsTapedCall (call.EnumBegin name) = IsTapedName name
IsTapedCall (call.EnumEnd name) = IsTapedName name
IsTapedCall (call.TaggedBegin name) = IsTapedName name
IsTapedCall (call.TaggedEnd name) = IsTapedName name
IsTapedCall (call.Begin head size) = IsTapedHead head × IsTapedSize size
IsTapedCall (call.End head) = IsTapedHead head
IsTapedCall (call.PartBegin slot) = IsTapedSlot slot
IsTapedCall (call.PartEnd slot) = IsTapedSlot slot
IsTapedCall _ = ⊤

-- these bytes are the tape of these calls, which it gives back
pub record IsTape (bytes : List ℕ) (calls : List Call) : Type 0 where
  pub taped : AllByRecursion IsTapedCall calls
  pub bytes_are : bytes ≡ tape_of calls

-- the first bytes are a tape, and no call begins where they end
pub record IsBadAt (bytes : List ℕ) (at : ℕ) : Type 0 where
  pub within : at < length bytes
  pub calls : List Call
  pub before : IsTape (take at bytes) calls
  pub bad : (call : Call) (rest : List ℕ) → IsTapedCall call → drop at bytes ≡ call_bytes call ++ rest → ⊥
