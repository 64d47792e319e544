-- What each call does to a buffer for binaries is what its lowered calls do.
use Rattle.std.specs.Prelude.{◌≡◌, ℤ, Bool, true, false, not, List, [], ◌∷◌, ◌++◌, flat_map, if◌then◌else◌, Option, Some, None, Result, Err, refl}
use Rattle.std.specs.Fmt.{signed_decimal}
use Rattle.std.proofs.Common.{ap, ◌∙◌}
use Rattle.sval_label.specs.Calls.{Label, Name, IntType, Call}
use Rattle.sval_label.specs.Ranges.{is_signed}
use Rattle.sval_core.specs.Names.{says_none, number_tag, tag_alone}
use Rattle.sval_lower.specs.Lower.{wide_calls, label_or_null}
use Rattle.sval_lower.specs.Lowered.{lowered, lowered_call, lowered_within, is_for_binaries}
use Rattle.sval_buffer.specs.Pushes.{HeldBytes}
use Rattle.sval_buffer.specs.declared.error.Word.{Word}
use Rattle.sval_buffer.specs.declared.error.Word.TheVariants as word
use Rattle.sval_buffer.specs.Collected.{binary_use}
use Rattle.sval_buffer.specs.CollectSteps.{word_for_label, binary_step, steps_of}
use Rattle.sval_lower.proofs.WideNumbers.{at_wide, from_u128, from_u64, from_u32, from_u16}
use Rattle.sval_buffer.proofs.CollectedSteps.{use_step}

abbrev pub after_binary : HeldBytes → List Call → Result HeldBytes Word
after_binary held calls = steps_of (use_step binary_use) held calls

pub binary_wide : (n : ℤ) (held : HeldBytes) → after_binary held (lowered is_for_binaries (wide_calls n)) ≡ binary_step held (Call.Int IntType.U128 n)
unfolding steps_of lowered_within
binary_wide n held = go (is_signed 63 n)
  where
    go : (b : Bool) → after_binary held (lowered is_for_binaries (if b then Call.Int IntType.I64 n ∷ [] else Call.TaggedBegin (tag_alone number_tag) ∷ Call.TextBegin None ∷ Call.TextFragment false (signed_decimal n) ∷ Call.TextEnd ∷ Call.TaggedEnd (tag_alone number_tag) ∷ []))
        ≡ Err (if not b then word.Text else word.Integer)
    go true = refl
    go false = refl

pub binary_int : (type : IntType) (n : ℤ) (held : HeldBytes) → after_binary held (lowered_call is_for_binaries (Call.Int type n)) ≡ binary_step held (Call.Int type n)
unfolding steps_of lowered_within
binary_int IntType.I8 n held = refl
binary_int IntType.I16 n held = refl
binary_int IntType.I32 n held = refl
binary_int IntType.I64 n held = refl
binary_int IntType.U8 n held = refl
binary_int IntType.U16 n held = ap (after_binary held) (from_u16 is_for_binaries n refl refl refl refl) ∙ binary_wide n held
binary_int IntType.U32 n held = ap (after_binary held) (from_u32 is_for_binaries n refl refl refl) ∙ binary_wide n held
binary_int IntType.U64 n held = ap (after_binary held) (from_u64 is_for_binaries n refl refl) ∙ binary_wide n held
binary_int IntType.U128 n held = ap (after_binary held) (from_u128 is_for_binaries n refl) ∙ binary_wide n held
binary_int IntType.I128 n held = ap (after_binary held) (at_wide is_for_binaries IntType.I128 n refl refl) ∙ binary_wide n held

pub binary_own : (name : Name) (held : HeldBytes) → after_binary held (lowered_call is_for_binaries (Call.Standalone name)) ≡ binary_step held (Call.Standalone name)
unfolding steps_of lowered_within
binary_own name held = go (says_none name.tag) name.label
  where
    go : (b : Bool) (label : Option Label)
        → after_binary held (flat_map (lowered_within 1 is_for_binaries) (Call.TaggedBegin name ∷ ((if b then Call.Null ∷ [] else label_or_null label) ++ Call.TaggedEnd name ∷ [])))
        ≡ Err (word_for_label (if b then None else label))
    go true label = refl
    go false (Some label) = refl
    go false None = refl
