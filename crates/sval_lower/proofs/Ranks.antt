-- Each lower call can be lowered less often than the call that it stands for.
use Rattle.std.specs.Prelude.{◌≡◌, ℕ, ℤ, ◌<◌, ◌+◌, nat_lt, Bool, true, false, ◌&&◌, List, [], ◌∷◌, ◌++◌, flat_map, Option, Some, None, if◌then◌else◌, refl}
use Rattle.std.specs.List.{list_all, AllByRecursion}
use Rattle.std.proofs.Common.{arith}
use Rattle.sval_label.specs.Calls.{IntType, Head, Slot, Name, Label, Call}
use Rattle.sval_label.specs.Ranges.{is_signed}
use Rattle.sval_core.specs.Names.{says_none}
use Rattle.sval_lower.specs.Lower.{lower, label_or_null, own_calls, wide_calls, byte_calls}
use Rattle.sval_lower.specs.Lowered.{is_base, rank}
use Rattle.std.proofs.lemmas.Bool.Decides.{nat_tests}
use borrow.Author.Tests.{ltb-true}

abbrev all_below : ℕ → List Call → Bool
all_below n calls = list_all (λ call. nat_lt (rank call) n) calls

-- a base call stands for itself, and any other for calls that can be lowered less often
pub data Falls (call : Call) : Type 0 where
  is_at_base : is_base call ≡ true → rank call ≡ 0 → lower call ≡ call ∷ [] → Falls call
  falls : is_base call ≡ false → 0 < rank call → AllByRecursion (λ c. rank c < rank call) (lower call) → Falls call

both : {a b : Bool} → (a && b) ≡ true → (a ≡ true) × (b ≡ true)
both {a = true} e = (refl, e)
both {a = false} e = absurd (cc)

below : (n : ℕ) (calls : List Call) → all_below n calls ≡ true → AllByRecursion (λ c. rank c < n) calls
below n [] e = tt
below n (call ∷ calls) e = let h = both {a = nat_lt (rank call) n} e in (ltb-true (rank call) n h.0, below n calls h.1)

falls_so : (call : Call) → is_base call ≡ false → nat_lt 0 (rank call) ≡ true → all_below (rank call) (lower call) ≡ true → Falls call
falls_so call b p e = falls b (ltb-true 0 (rank call) p) (below (rank call) (lower call) e)

either_falls : (b : Bool) (first second : List Call) → all_below 2 first ≡ true → all_below 2 second ≡ true → all_below 2 (if b then first else second) ≡ true
either_falls true first second f g = f
either_falls false first second f g = g

wide_falls : (n : ℤ) → all_below 2 (wide_calls n) ≡ true
wide_falls n = either_falls (is_signed 63 n) _ _ refl refl

bytes_fall : (bytes : List ℕ) → all_below 7 (flat_map byte_calls bytes) ≡ true
bytes_fall [] = refl
bytes_fall (byte ∷ bytes) = bytes_fall bytes

-- a fragment's rank is 0 or 1
fragment_falls : (n : ℕ) (borrowed : Bool) (text : List ℕ) → (nat_lt (rank (Call.TextFragment borrowed text)) (n + 2) && true) ≡ true
fragment_falls n true text = grind (arith, nat_tests)
fragment_falls n false text = grind (arith, nat_tests)

own_falls : (name : Name) → all_below 2 (own_calls name ++ Call.TaggedEnd name ∷ []) ≡ true
own_falls name = go (says_none name.tag) name.label
  where
    go : (b : Bool) (label : Option Label) → all_below 2 ((if b then Call.Null ∷ [] else label_or_null label) ++ Call.TaggedEnd name ∷ []) ≡ true
    go true label = refl
    go false (Some label) = fragment_falls 0 label.is_static label.text
    go false None = refl

int_falls : (type : IntType) (n : ℤ) → Falls (Call.Int type n)
int_falls IntType.U8 n = falls_so _ refl refl refl
int_falls IntType.U16 n = falls_so _ refl refl refl
int_falls IntType.U32 n = falls_so _ refl refl refl
int_falls IntType.U64 n = falls_so _ refl refl refl
int_falls IntType.U128 n = falls_so _ refl refl (wide_falls n)
int_falls IntType.I8 n = falls_so _ refl refl refl
int_falls IntType.I16 n = falls_so _ refl refl refl
int_falls IntType.I32 n = falls_so _ refl refl refl
int_falls IntType.I64 n = is_at_base refl refl refl
int_falls IntType.I128 n = falls_so _ refl refl (wide_falls n)

pub falls_or_base : (call : Call) → Falls call
falls_or_base Call.Null = is_at_base refl refl refl
falls_or_base (Call.Truth b) = is_at_base refl refl refl
falls_or_base (Call.Int type n) = int_falls type n
falls_or_base (Call.Standalone name) = falls_so _ refl refl (own_falls name)
falls_or_base (Call.TagHint tag) = falls_so _ refl refl refl
falls_or_base (Call.TextBegin size) = is_at_base refl refl refl
falls_or_base (Call.TextFragment true text) = falls_so _ refl refl refl
falls_or_base (Call.TextFragment false text) = is_at_base refl refl refl
falls_or_base Call.TextEnd = is_at_base refl refl refl
falls_or_base (Call.BinaryBegin size) = falls_so _ refl refl refl
falls_or_base (Call.BinaryFragment true bytes) = falls_so _ refl refl refl
falls_or_base (Call.BinaryFragment false bytes) = falls_so _ refl refl (bytes_fall bytes)
falls_or_base Call.BinaryEnd = falls_so _ refl refl refl
falls_or_base (Call.EnumBegin name) = falls_so _ refl refl refl
falls_or_base (Call.EnumEnd name) = falls_so _ refl refl refl
falls_or_base (Call.TaggedBegin name) = falls_so _ refl refl refl
falls_or_base (Call.TaggedEnd name) = falls_so _ refl refl refl
falls_or_base (Call.Begin Head.Seq size) = is_at_base refl refl refl
falls_or_base (Call.Begin Head.Map size) = falls_so _ refl refl refl
falls_or_base (Call.Begin (Head.Record name) size) = falls_so _ refl refl refl
falls_or_base (Call.Begin (Head.Tuple name) size) = falls_so _ refl refl refl
falls_or_base (Call.Begin (Head.RecordTuple name) size) = falls_so _ refl refl refl
falls_or_base (Call.End Head.Seq) = is_at_base refl refl refl
falls_or_base (Call.End Head.Map) = falls_so _ refl refl refl
falls_or_base (Call.End (Head.Record name)) = falls_so _ refl refl refl
falls_or_base (Call.End (Head.Tuple name)) = falls_so _ refl refl refl
falls_or_base (Call.End (Head.RecordTuple name)) = falls_so _ refl refl refl
falls_or_base (Call.PartBegin Slot.Item) = is_at_base refl refl refl
falls_or_base (Call.PartBegin Slot.Key) = falls_so _ refl refl refl
falls_or_base (Call.PartBegin Slot.Value) = falls_so _ refl refl refl
falls_or_base (Call.PartBegin (Slot.Field tag label)) = falls_so _ refl refl (fragment_falls 2 label.is_static label.text)
falls_or_base (Call.PartBegin (Slot.Place tag index)) = falls_so _ refl refl refl
falls_or_base (Call.PartBegin (Slot.FieldPlace tag label index)) = falls_so _ refl refl refl
falls_or_base (Call.PartEnd Slot.Item) = is_at_base refl refl refl
falls_or_base (Call.PartEnd Slot.Key) = falls_so _ refl refl refl
falls_or_base (Call.PartEnd Slot.Value) = falls_so _ refl refl refl
falls_or_base (Call.PartEnd (Slot.Field tag label)) = falls_so _ refl refl refl
falls_or_base (Call.PartEnd (Slot.Place tag index)) = falls_so _ refl refl refl
falls_or_base (Call.PartEnd (Slot.FieldPlace tag label index)) = falls_so _ refl refl refl
