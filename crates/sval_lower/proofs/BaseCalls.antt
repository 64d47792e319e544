-- What lists of plain calls are lowered to, where the base calls alone are taken.
use Rattle.std.specs.Prelude.{◌≡◌, ℕ, ℤ, Bool, true, false, List, [], ◌∷◌, ◌++◌, length, flat_map, if◌then◌else◌, Option, Some, None, option_map, refl}
use Rattle.std.specs.List.{AllByRecursion, cons_option}
use Rattle.std.specs.Fmt.{signed_decimal}
use Rattle.std.proofs.Common.{ap, ◌∙◌, sym, append-nil}
use Rattle.sval_label.specs.Calls.{Tag, Label, Index, Name, IntType, Head, Slot, Call}
use Rattle.sval_label.specs.Ranges.{is_signed}
use Rattle.sval_core.specs.Names.{says_none, number_tag, tag_alone}
use Rattle.sval_core.specs.Trees.{plain_name, plain_label}
use Rattle.sval_core.specs.Spells.{plain_call, plain}
use Rattle.sval_lower.specs.Lower.{wide_calls, label_or_null}
use Rattle.sval_lower.specs.Lowered.{is_base, lowered_within, lowered_call, lowered}
use Rattle.sval_lower.proofs.LoweredCalls.{lowers_to, leaves}
use Rattle.sval_lower.proofs.WideNumbers.{one_up, at_wide, from_u128, from_u64, from_u32, from_u16}

-- ---- base calls are plain

base_is_plain : (call : Call) → is_base call ≡ true → plain_call call ≡ Some call
base_is_plain Call.Null b = refl
base_is_plain (Call.Truth t) b = refl
base_is_plain (Call.Int IntType.I64 n) b = refl
base_is_plain (Call.TextBegin size) b = refl
base_is_plain (Call.TextFragment false text) b = refl
base_is_plain Call.TextEnd b = refl
base_is_plain (Call.Begin Head.Seq size) b = refl
base_is_plain (Call.PartBegin Slot.Item) b = refl
base_is_plain (Call.PartEnd Slot.Item) b = refl
base_is_plain (Call.End Head.Seq) b = refl
base_is_plain call b = absurd (cc)

all_plain : (calls : List Call) → AllByRecursion (λ call. is_base call ≡ true) calls → plain calls ≡ calls
all_plain [] all = refl
all_plain (call ∷ calls) all = ap (λ o. cons_option o (plain calls)) (base_is_plain call all.0) ∙ ap (λ rest. call ∷ rest) (all_plain calls all.1)

pub lowered_is_plain : (calls : List Call) → plain (lowered is_base calls) ≡ lowered is_base calls
lowered_is_plain calls = all_plain (lowered is_base calls) (leaves is_base (lowers_to is_base (λ call b. b) calls))

-- ---- plain calls are lowered as the calls are

abbrev lowered_if : Option Call → List Call
lowered_if None = []
lowered_if (Some call) = lowered_call is_base call

fragment_as_plain : (borrowed : Bool) (text : List ℕ) → lowered_call is_base (Call.TextFragment borrowed text) ≡ Call.TextFragment false text ∷ []
unfolding lowered_within
fragment_as_plain true text = refl
fragment_as_plain false text = refl

-- a tag by itself, as it is told
abbrev pub own_base : Bool → Option Label → List Call
own_base true label = Call.Null ∷ []
own_base false (Some label) = Call.TextBegin (Some (length label.text)) ∷ Call.TextFragment false label.text ∷ Call.TextEnd ∷ []
own_base false None = Call.Null ∷ []

label_told : (name : Name) (size : Option ℕ) (borrowed : Bool) (text : List ℕ)
    → flat_map (lowered_within 1 is_base) (Call.TaggedBegin name ∷ Call.TextBegin size ∷ Call.TextFragment borrowed text ∷ Call.TextEnd ∷ Call.TaggedEnd name ∷ [])
    ≡ Call.TextBegin size ∷ Call.TextFragment false text ∷ Call.TextEnd ∷ []
unfolding lowered_within
label_told name size true text = refl
label_told name size false text = refl

pub own_told : (name : Name) → lowered_call is_base (Call.Standalone name) ≡ own_base (says_none name.tag) name.label
unfolding lowered_within
own_told name = go (says_none name.tag) name.label
  where
    go : (b : Bool) (label : Option Label)
        → flat_map (lowered_within 1 is_base) (Call.TaggedBegin name ∷ ((if b then Call.Null ∷ [] else label_or_null label) ++ Call.TaggedEnd name ∷ [])) ≡ own_base b label
    go true label = refl
    go false (Some label) = label_told name (Some (length label.text)) label.is_static label.text
    go false None = refl

own_plain : (b : Bool) (label : Option Label) → own_base b label ≡ own_base b (option_map plain_label label)
own_plain true label = refl
own_plain false (Some label) = refl
own_plain false None = refl

-- the first calls of a field, up to where its value begins
abbrev pub field_front : List ℕ → List Call
field_front text =
    Call.PartBegin Slot.Item ∷ Call.Begin Head.Seq (Some 2) ∷ Call.PartBegin Slot.Item
    ∷ Call.TextBegin (Some (length text)) ∷ Call.TextFragment false text ∷ Call.TextEnd ∷ Call.PartEnd Slot.Item ∷ Call.PartBegin Slot.Item ∷ []

field_by : (size : Option ℕ) (borrowed : Bool) (text : List ℕ)
    → flat_map (lowered_within 3 is_base) (Call.PartBegin Slot.Key ∷ Call.TextBegin (Some (length text)) ∷ Call.TextFragment borrowed text ∷ Call.TextEnd ∷ Call.PartEnd Slot.Key ∷ Call.PartBegin Slot.Value ∷ [])
    ≡ field_front text
unfolding lowered_within
field_by size true text = refl
field_by size false text = refl

pub field_told : (tag : Option Tag) (label : Label) → lowered_call is_base (Call.PartBegin (Slot.Field tag label)) ≡ field_front label.text
unfolding lowered_within
field_told tag label = field_by None label.is_static label.text

pub field_place_told : (tag : Option Tag) (label : Label) (index : Index) → lowered_call is_base (Call.PartBegin (Slot.FieldPlace tag label index)) ≡ field_front label.text
unfolding lowered_within
field_place_told tag label index = append-nil (lowered_within 4 is_base (Call.PartBegin (Slot.Field tag label))) ∙ field_told tag label

call_as_plain : (call : Call) → lowered_call is_base call ≡ lowered_if (plain_call call)
unfolding lowered_within
call_as_plain Call.Null = refl
call_as_plain (Call.Truth b) = refl
call_as_plain (Call.Int type n) = refl
call_as_plain (Call.Standalone name) = own_told name ∙ own_plain (says_none name.tag) name.label ∙ sym (own_told (plain_name name))
call_as_plain (Call.TagHint tag) = refl
call_as_plain (Call.TextBegin size) = refl
call_as_plain (Call.TextFragment borrowed text) = fragment_as_plain borrowed text
call_as_plain Call.TextEnd = refl
call_as_plain (Call.BinaryBegin size) = refl
call_as_plain (Call.BinaryFragment true bytes) = append-nil (lowered_within 7 is_base (Call.BinaryFragment false bytes))
call_as_plain (Call.BinaryFragment false bytes) = refl
call_as_plain Call.BinaryEnd = refl
call_as_plain (Call.EnumBegin name) = refl
call_as_plain (Call.EnumEnd name) = refl
call_as_plain (Call.TaggedBegin name) = refl
call_as_plain (Call.TaggedEnd name) = refl
call_as_plain (Call.Begin Head.Seq size) = refl
call_as_plain (Call.Begin Head.Map size) = refl
call_as_plain (Call.Begin (Head.Record name) size) = refl
call_as_plain (Call.Begin (Head.Tuple name) size) = refl
call_as_plain (Call.Begin (Head.RecordTuple name) size) = refl
call_as_plain (Call.End Head.Seq) = refl
call_as_plain (Call.End Head.Map) = refl
call_as_plain (Call.End (Head.Record name)) = refl
call_as_plain (Call.End (Head.Tuple name)) = refl
call_as_plain (Call.End (Head.RecordTuple name)) = refl
call_as_plain (Call.PartBegin Slot.Item) = refl
call_as_plain (Call.PartBegin Slot.Key) = refl
call_as_plain (Call.PartBegin Slot.Value) = refl
call_as_plain (Call.PartBegin (Slot.Field tag label)) = field_told tag label ∙ sym (field_told tag (plain_label label))
call_as_plain (Call.PartBegin (Slot.Place tag index)) = refl
call_as_plain (Call.PartBegin (Slot.FieldPlace tag label index)) = field_place_told tag label index ∙ sym (field_place_told tag (plain_label label) index)
call_as_plain (Call.PartEnd Slot.Item) = refl
call_as_plain (Call.PartEnd Slot.Key) = refl
call_as_plain (Call.PartEnd Slot.Value) = refl
call_as_plain (Call.PartEnd (Slot.Field tag label)) = refl
call_as_plain (Call.PartEnd (Slot.Place tag index)) = refl
call_as_plain (Call.PartEnd (Slot.FieldPlace tag label index)) = refl

before_lowered : (o : Option Call) (calls : List Call) → lowered_if o ++ lowered is_base calls ≡ lowered is_base (cons_option o calls)
before_lowered None calls = refl
before_lowered (Some call) calls = refl

pub lowered_as_plain : (calls : List Call) → lowered is_base calls ≡ lowered is_base (plain calls)
lowered_as_plain [] = refl
lowered_as_plain (call ∷ calls) =
    ap (λ first. first ++ lowered is_base calls) (call_as_plain call)
    ∙ ap (λ rest. lowered_if (plain_call call) ++ rest) (lowered_as_plain calls)
    ∙ before_lowered (plain_call call) (plain calls)

-- ---- whole numbers

abbrev pub wide_base : ℤ → List Call
wide_base n = if is_signed 63 n then Call.Int IntType.I64 n ∷ [] else Call.TextBegin None ∷ Call.TextFragment false (signed_decimal n) ∷ Call.TextEnd ∷ []

wide_told : (n : ℤ) → lowered is_base (wide_calls n) ≡ wide_base n
unfolding lowered_within
wide_told n = go (is_signed 63 n)
  where
    go : (b : Bool) → lowered is_base (if b then Call.Int IntType.I64 n ∷ [] else Call.TaggedBegin (tag_alone number_tag) ∷ Call.TextBegin None ∷ Call.TextFragment false (signed_decimal n) ∷ Call.TextEnd ∷ Call.TaggedEnd (tag_alone number_tag) ∷ [])
        ≡ (if b then Call.Int IntType.I64 n ∷ [] else Call.TextBegin None ∷ Call.TextFragment false (signed_decimal n) ∷ Call.TextEnd ∷ [])
    go true = refl
    go false = refl

abbrev pub int_base : IntType → ℤ → List Call
int_base IntType.I8 n = Call.Int IntType.I64 n ∷ []
int_base IntType.I16 n = Call.Int IntType.I64 n ∷ []
int_base IntType.I32 n = Call.Int IntType.I64 n ∷ []
int_base IntType.I64 n = Call.Int IntType.I64 n ∷ []
int_base _ n = wide_base n

pub int_told : (type : IntType) (n : ℤ) → lowered_call is_base (Call.Int type n) ≡ int_base type n
unfolding lowered_within
int_told IntType.I8 n = refl
int_told IntType.I16 n = refl
int_told IntType.I32 n = refl
int_told IntType.I64 n = refl
int_told IntType.U8 n = one_up is_base IntType.U8 IntType.U16 n refl refl ∙ from_u16 is_base n refl refl refl refl ∙ wide_told n
int_told IntType.U16 n = from_u16 is_base n refl refl refl refl ∙ wide_told n
int_told IntType.U32 n = from_u32 is_base n refl refl refl ∙ wide_told n
int_told IntType.U64 n = from_u64 is_base n refl refl ∙ wide_told n
int_told IntType.U128 n = from_u128 is_base n refl ∙ wide_told n
int_told IntType.I128 n = at_wide is_base IntType.I128 n refl refl ∙ wide_told n
