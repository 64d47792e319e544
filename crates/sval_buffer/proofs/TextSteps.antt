-- What each call does to a buffer for texts is what its lowered calls do.
use Rattle.std.specs.Prelude.{◌≡◌, ℕ, ℤ, Bool, true, false, not, List, [], ◌∷◌, ◌++◌, length, flat_map, if◌then◌else◌, Option, Some, None, Result, Ok, Err, refl}
use Rattle.std.specs.Fmt.{signed_decimal}
use Rattle.std.proofs.Common.{ap, ◌∙◌}
use Rattle.sval_label.specs.Calls.{Label, Name, IntType, Call}
use Rattle.sval_label.specs.Ranges.{is_signed}
use Rattle.sval_core.specs.Names.{says_none, number_tag, tag_alone}
use Rattle.sval_lower.specs.Lower.{wide_calls, label_or_null}
use Rattle.sval_lower.specs.Lowered.{lowered, lowered_call, lowered_within, is_for_texts}
use Rattle.sval_buffer.specs.Pushes.{HeldBytes, pushed}
use Rattle.sval_buffer.specs.declared.error.Word.{Word}
use Rattle.sval_buffer.specs.declared.error.Word.TheVariants as word
use Rattle.sval_buffer.specs.Collected.{text_use}
use Rattle.sval_buffer.specs.CollectSteps.{push, push_label, text_step, steps_of}
use Rattle.sval_lower.proofs.WideNumbers.{one_up, at_wide, from_u128, from_u64, from_u32, from_u16}
use Rattle.sval_buffer.proofs.CollectedSteps.{use_step}

-- ---- numbers

abbrev pub after_text : HeldBytes → List Call → Result HeldBytes Word
after_text held calls = steps_of (use_step text_use) held calls

pub text_wide : (n : ℤ) (held : HeldBytes) → steps_of (use_step text_use) held (lowered is_for_texts (wide_calls n)) ≡ text_step held (Call.Int IntType.U128 n)
unfolding steps_of lowered_within
text_wide n held = go (is_signed 63 n)
  where
    go : (b : Bool) → steps_of (use_step text_use) held (lowered is_for_texts (if b then Call.Int IntType.I64 n ∷ [] else Call.TaggedBegin (tag_alone number_tag) ∷ Call.TextBegin None ∷ Call.TextFragment false (signed_decimal n) ∷ Call.TextEnd ∷ Call.TaggedEnd (tag_alone number_tag) ∷ []))
        ≡ (if not b then Ok (pushed held (record { borrowed = false; bytes = signed_decimal n })) else Err word.Integer)
    go true = refl
    go false = refl

pub text_int : (type : IntType) (n : ℤ) (held : HeldBytes) → after_text held (lowered_call is_for_texts (Call.Int type n)) ≡ text_step held (Call.Int type n)
unfolding steps_of lowered_within
text_int IntType.I8 n held = refl
text_int IntType.I16 n held = refl
text_int IntType.I32 n held = refl
text_int IntType.I64 n held = refl
text_int IntType.U8 n held = ap (after_text held) (one_up is_for_texts IntType.U8 IntType.U16 n refl refl ∙ from_u16 is_for_texts n refl refl refl refl) ∙ text_wide n held
text_int IntType.U16 n held = ap (after_text held) (from_u16 is_for_texts n refl refl refl refl) ∙ text_wide n held
text_int IntType.U32 n held = ap (after_text held) (from_u32 is_for_texts n refl refl refl) ∙ text_wide n held
text_int IntType.U64 n held = ap (after_text held) (from_u64 is_for_texts n refl refl) ∙ text_wide n held
text_int IntType.U128 n held = ap (after_text held) (from_u128 is_for_texts n refl) ∙ text_wide n held
text_int IntType.I128 n held = ap (after_text held) (at_wide is_for_texts IntType.I128 n refl refl) ∙ text_wide n held

pub text_bytes : (bytes : List ℕ) (held : HeldBytes) → after_text held (lowered_call is_for_texts (Call.BinaryFragment false bytes)) ≡ text_step held (Call.BinaryFragment false bytes)
unfolding steps_of lowered_within
text_bytes [] held = refl
text_bytes (byte ∷ bytes) held = refl

pub text_label : (borrowed : Bool) (text : List ℕ) (name : Name) (size : Option ℕ) (held : HeldBytes)
    → after_text held (flat_map (lowered_within 1 is_for_texts) (Call.TaggedBegin name ∷ Call.TextBegin size ∷ Call.TextFragment borrowed text ∷ Call.TextEnd ∷ Call.TaggedEnd name ∷ []))
    ≡ push held borrowed text
unfolding steps_of lowered_within
text_label true text name size held = refl
text_label false text name size held = refl

pub text_own : (name : Name) (held : HeldBytes) → after_text held (lowered_call is_for_texts (Call.Standalone name)) ≡ text_step held (Call.Standalone name)
unfolding steps_of lowered_within
text_own name held = go (says_none name.tag) name.label
  where
    go : (b : Bool) (label : Option Label)
        → after_text held (flat_map (lowered_within 1 is_for_texts) (Call.TaggedBegin name ∷ ((if b then Call.Null ∷ [] else label_or_null label) ++ Call.TaggedEnd name ∷ [])))
        ≡ push_label held (if b then None else label)
    go true label = refl
    go false (Some label) = text_label label.is_static label.text name (Some (length label.text)) held
    go false None = refl
