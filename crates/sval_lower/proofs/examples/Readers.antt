-- What readers find in some values, as it computes.
use Rattle.std.specs.Prelude.{◌≡◌, ℕ, pos, negsuc, true, false, [], ◌∷◌, codes, Some, None, refl}
use Rattle.sval_label.specs.Calls.{IntType, Call, Head}
use Rattle.sval_core.specs.Law.{Emission}
use Rattle.sval_core.specs.Names.{unit_tag, number_tag, tag_alone, some_name, none_name, no_name}
use Rattle.sval_core.specs.Values.{makes, fails_after}
use Rattle.sval_lower.specs.Readers.{first_tag, to_bool, to_i8, to_i32, to_i64, to_i128, to_u8, to_u16, to_u64, to_u128, to_text, to_binary}

abbrev int : IntType → ℕ → Emission
int type n = makes (Call.Int type (pos n) ∷ [])

-- a number answers at its own type, and types without a sign at each larger one
numbers_at_types :
    (to_i32 (int IntType.I32 5) ≡ Some (pos 5)) × (to_i64 (int IntType.I32 5) ≡ None) × (to_u64 (int IntType.U8 5) ≡ Some (pos 5))
    × (to_i64 (int IntType.U8 5) ≡ None) × (to_i128 (int IntType.I64 5) ≡ None) × (to_u128 (int IntType.I128 5) ≡ None)
numbers_at_types = (refl, refl, refl, refl, refl, refl)

-- the largest types answer where the number fits
numbers_that_fit :
    (to_i8 (int IntType.I128 5) ≡ Some (pos 5)) × (to_i8 (int IntType.I128 300) ≡ None) × (to_u8 (int IntType.U32 255) ≡ Some (pos 255))
    × (to_u8 (int IntType.U32 256) ≡ None) × (to_i8 (makes (Call.Int IntType.I128 (negsuc 127) ∷ [])) ≡ Some (negsuc 127))
    × (to_i8 (makes (Call.Int IntType.I128 (negsuc 128) ∷ [])) ≡ None)
numbers_that_fit = (refl, refl, refl, refl, refl, refl)

-- the last one counts, whatever stands around it, unless another kind of call comes
last_number :
    (to_u16 (makes (Call.TaggedBegin some_name ∷ Call.Int IntType.U8 (pos 1) ∷ Call.TagHint number_tag ∷ Call.Int IntType.U16 (pos 2) ∷ Call.TaggedEnd some_name ∷ [])) ≡ Some (pos 2))
    × (to_u16 (makes (Call.Int IntType.U8 (pos 1) ∷ Call.Null ∷ [])) ≡ None) × (to_u16 (makes []) ≡ None)
    × (to_u16 (makes (Call.Int IntType.U16 (pos 1) ∷ Call.BinaryFragment false [] ∷ [])) ≡ Some (pos 1))
    × (to_u16 (makes (Call.Int IntType.U16 (pos 1) ∷ Call.BinaryFragment false (0 ∷ []) ∷ [])) ≡ None)
last_number = (refl, refl, refl, refl, refl)

truths :
    (to_bool (makes (Call.Truth true ∷ [])) ≡ Some true) × (to_bool (makes (Call.Truth true ∷ Call.Truth false ∷ [])) ≡ Some false)
    × (to_bool (fails_after (Call.Truth true ∷ [])) ≡ None) × (to_bool (makes (Call.Null ∷ [])) ≡ None)
truths = (refl, refl, refl, refl)

-- a text that is lent in one piece
texts :
    (to_text (makes (Call.TextBegin (Some 1) ∷ Call.TextFragment false (codes "a") ∷ Call.TextEnd ∷ [])) ≡ None)
    × (to_text (makes (Call.TaggedBegin some_name ∷ Call.TextBegin (Some 1) ∷ Call.TextFragment true (codes "x") ∷ Call.TextEnd ∷ Call.TaggedEnd some_name ∷ [])) ≡ Some (codes "x"))
    × (to_text (makes (Call.TextFragment true (codes "x") ∷ Call.TextFragment true (codes "y") ∷ [])) ≡ None)
    × (to_text (makes (Call.TextBegin None ∷ Call.TextEnd ∷ [])) ≡ None)
texts = (refl, refl, refl, refl)

-- a tag by itself counts by its label, if that lives as long as the program and the tag doesn't say that there is no value
tags_as_texts :
    (to_text (makes (Call.Standalone some_name ∷ [])) ≡ Some (codes "Some")) × (to_text (makes (Call.Standalone none_name ∷ [])) ≡ None)
    × (to_text (makes (Call.Standalone (record { tag = None; label = Some (record { text = codes "A"; tag = None; is_static = false }); index = None }) ∷ [])) ≡ None)
    × (to_text (makes (Call.Standalone (tag_alone unit_tag) ∷ [])) ≡ None)
tags_as_texts = (refl, refl, refl, refl)

-- an empty piece counts in a binary that is lent
binaries :
    (to_binary (makes (Call.BinaryBegin (Some 2) ∷ Call.BinaryFragment true (0 ∷ 255 ∷ []) ∷ Call.BinaryEnd ∷ [])) ≡ Some (0 ∷ 255 ∷ []))
    × (to_binary (makes (Call.BinaryFragment true [] ∷ [])) ≡ Some []) × (to_binary (makes (Call.BinaryFragment true [] ∷ Call.BinaryFragment true (1 ∷ []) ∷ [])) ≡ None)
    × (to_binary (makes (Call.BinaryFragment true (1 ∷ []) ∷ Call.BinaryFragment false [] ∷ [])) ≡ None)
binaries = (refl, refl, refl, refl)

tags :
    (first_tag (makes (Call.Standalone (tag_alone unit_tag) ∷ [])) ≡ Some unit_tag) × (first_tag (int IntType.U8 5) ≡ Some number_tag)
    × (first_tag (makes (Call.TextBegin (Some 1) ∷ Call.TextFragment true (codes "x") ∷ Call.TextEnd ∷ [])) ≡ None)
    × (first_tag (makes (Call.TagHint number_tag ∷ Call.Begin (Head.Tuple (tag_alone unit_tag)) None ∷ [])) ≡ Some unit_tag)
    × (first_tag (fails_after (Call.BinaryFragment true [] ∷ Call.EnumBegin no_name ∷ Call.TaggedBegin (tag_alone unit_tag) ∷ [])) ≡ None)
    × (first_tag (fails_after (Call.EnumEnd no_name ∷ Call.TaggedBegin some_name ∷ [])) ≡ some_name.tag)
tags = (refl, refl, refl, refl, refl, refl)
