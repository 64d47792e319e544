-- Calls as a stream is told them that takes some calls itself and has the others lowered.
use Rattle.std.specs.Prelude.{◌≡◌, ℕ, zero, suc, Bool, true, false, List, [], ◌∷◌, ◌++◌, flat_map}
use Rattle.sval_label.specs.Calls.{IntType, Head, Slot, Call}
use Rattle.sval_lower.specs.Lower.{lower}

-- the ten base calls, which are never lowered
abbrev pub is_base : Call → Bool
is_base Call.Null = true
is_base (Call.Truth _) = true
is_base (Call.Int IntType.I64 _) = true
is_base (Call.TextBegin _) = true
is_base (Call.TextFragment false _) = true
is_base Call.TextEnd = true
is_base (Call.Begin Head.Seq _) = true
is_base (Call.PartBegin Slot.Item) = true
is_base (Call.PartEnd Slot.Item) = true
is_base (Call.End Head.Seq) = true
is_base _ = false

-- the stream takes the base calls, and others or none
abbrev pub TakesBase : (Call → Bool) → Type 0
TakesBase taken = (call : Call) → is_base call ≡ true → taken call ≡ true

-- the second list is the first one with each call that isn't taken replaced by its lower calls, again and again
pub data LowersTo (taken : Call → Bool) : List Call → List Call → Type 0 where
  no_call : LowersTo taken [] []
  keeps : {call : Call} {calls result : List Call} → taken call ≡ true → LowersTo taken calls result → LowersTo taken (call ∷ calls) (call ∷ result)
  replaces : {call : Call} {calls result : List Call} → taken call ≡ false → LowersTo taken (lower call ++ calls) result → LowersTo taken (call ∷ calls) result

-- how often a whole number can be lowered, with its lower calls in turn, at most
abbrev pub int_rank : IntType → ℕ
int_rank IntType.U8 = 6
int_rank IntType.U16 = 5
int_rank IntType.U32 = 4
int_rank IntType.U64 = 3
int_rank IntType.U128 = 2
int_rank IntType.I8 = 3
int_rank IntType.I16 = 2
int_rank IntType.I32 = 1
int_rank IntType.I64 = 0
int_rank IntType.I128 = 2

-- how often the begin or the end of a container can be lowered, with its lower calls in turn, at most
abbrev pub head_rank : Head → ℕ
head_rank Head.Seq = 0
head_rank Head.Map = 1
head_rank (Head.Record _) = 2
head_rank (Head.Tuple _) = 2
head_rank (Head.RecordTuple _) = 3

-- how often the begin or the end of a part can be lowered, with its lower calls in turn, at most
abbrev pub slot_rank : Slot → ℕ
slot_rank Slot.Item = 0
slot_rank Slot.Key = 3
slot_rank Slot.Value = 3
slot_rank (Slot.Field _ _) = 4
slot_rank (Slot.Place _ _) = 1
slot_rank (Slot.FieldPlace _ _ _) = 5

-- how often a call can be lowered at most, with its lower calls in turn: more often than each of these
abbrev pub rank : Call → ℕ
rank (Call.Int type _) = int_rank type
rank (Call.Standalone _) = 2
rank (Call.TagHint _) = 1
rank (Call.TextFragment true _) = 1
rank (Call.BinaryBegin _) = 1
rank (Call.BinaryFragment true _) = 8
rank (Call.BinaryFragment false _) = 7
rank Call.BinaryEnd = 1
rank (Call.EnumBegin _) = 2
rank (Call.EnumEnd _) = 2
rank (Call.TaggedBegin _) = 1
rank (Call.TaggedEnd _) = 1
rank (Call.Begin head _) = head_rank head
rank (Call.End head) = head_rank head
rank (Call.PartBegin slot) = slot_rank slot
rank (Call.PartEnd slot) = slot_rank slot
rank _ = 0

-- a call that can be lowered n times more, as the stream is told it
unfoldable pub lowered_within : ℕ → (Call → Bool) → Call → List Call
lowered_within zero taken call = call ∷ []
lowered_within (suc n) taken call = elim (taken call) [ true ↦ call ∷ [] | false ↦ flat_map (lowered_within n taken) (lower call) ]

-- one call as the stream is told it
abbrev pub lowered_call : (Call → Bool) → Call → List Call
lowered_call taken call = lowered_within (rank call) taken call

-- The calls as the stream is told them. The laws say that this is the one list that they lower to, wherever there is one.
abbrev pub lowered : (Call → Bool) → List Call → List Call
lowered taken calls = flat_map (lowered_call taken) calls

-- what a buffer for texts takes
abbrev pub is_for_texts : Call → Bool
is_for_texts (Call.TextFragment _ _) = true
is_for_texts call = is_base call

-- what a buffer for binaries takes
abbrev pub is_for_binaries : Call → Bool
is_for_binaries (Call.BinaryBegin _) = true
is_for_binaries (Call.BinaryFragment _ _) = true
is_for_binaries Call.BinaryEnd = true
is_for_binaries (Call.TextFragment _ _) = true
is_for_binaries (Call.Int IntType.U8 _) = true
is_for_binaries (Call.Begin Head.Map _) = true
is_for_binaries call = is_base call
