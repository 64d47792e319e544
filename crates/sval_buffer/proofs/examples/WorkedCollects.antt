-- What is collected from some values, as it computes.
use Rattle.std.specs.Prelude.{◌≡◌, ℕ, pos, negsuc, Bool, true, false, List, [], ◌∷◌, ◌++◌, codes, flat_map, Some, None, Result, Ok, Err, refl}
use Rattle.std.specs.Fmt.{digits}
use Rattle.sval_label.specs.Calls.{IntType, Head, Slot, Call}
use Rattle.sval_core.specs.Names.{constant_size_tag, unit_tag, tag_alone, no_name, offset, ident, some_name, none_name}
use Rattle.sval_core.specs.Values.{makes, fails_after}
use Rattle.sval_lower.specs.Lowered.{lowered_within}
use Rattle.sval_buffer.specs.Pushes.{HeldBytes}
use Rattle.sval_buffer.specs.declared.error.Word.TheVariants as word
use Rattle.sval_buffer.specs.declared.error.ErrorKind.{ErrorKind}
use Rattle.sval_buffer.specs.declared.error.ErrorKind.TheVariants as error
use Rattle.sval_buffer.specs.Collected.{text_collected, binary_collected}

abbrev lent : List ℕ → Result HeldBytes ErrorKind
lent bytes = Ok (record { borrowed = true; bytes = bytes })

abbrev copied : List ℕ → Result HeldBytes ErrorKind
copied bytes = Ok (record { borrowed = false; bytes = bytes })

abbrev one_text : Bool → List ℕ → List Call
one_text borrowed text = Call.TextBegin (Some 8) ∷ Call.TextFragment borrowed text ∷ Call.TextEnd ∷ []

abbrev byte_item : ℕ → List Call
byte_item byte = Call.PartBegin Slot.Item ∷ Call.Int IntType.U8 (pos byte) ∷ Call.PartEnd Slot.Item ∷ []

-- ---- texts

a_string : text_collected (makes (one_text true (codes "a string"))) ≡ lent (codes "a string")
unfolding lowered_within
a_string = refl

greatest_number : text_collected (makes (Call.Int IntType.U128 (pos 340282366920938463463374607431768211455) ∷ [])) ≡ copied (codes "340282366920938463463374607431768211455")
unfolding lowered_within digits
greatest_number = refl

least_number : text_collected (makes (Call.Int IntType.I128 (negsuc 170141183460469231731687303715884105727) ∷ [])) ≡ copied (codes "-170141183460469231731687303715884105728")
unfolding lowered_within digits
least_number = refl

small_number : text_collected (makes (Call.Int IntType.U8 (pos 1) ∷ [])) ≡ Err (error.Unsupported word.Integer word.Text)
unfolding lowered_within
small_number = refl

-- fragments are joined, whatever stands around them, and an empty one before a borrowed one changes nothing
joined_texts :
    (text_collected (makes (Call.TaggedBegin some_name ∷ (one_text false [] ++ one_text true (codes "ab") ++ Call.TaggedEnd some_name ∷ []))) ≡ lent (codes "ab"))
    × (text_collected (makes (one_text true (codes "a") ++ one_text true (codes "b"))) ≡ copied (codes "ab"))
    × (text_collected (makes []) ≡ lent [])
unfolding lowered_within
joined_texts = (refl, refl, refl)

-- a tag by itself is its label's text, or null
tags_as_texts :
    (text_collected (makes (Call.Standalone some_name ∷ [])) ≡ lent (codes "Some"))
    × (text_collected (makes (Call.Standalone none_name ∷ [])) ≡ Err (error.Unsupported word.Null word.Text))
    × (text_collected (makes (Call.Standalone (tag_alone unit_tag) ∷ [])) ≡ Err (error.Unsupported word.Null word.Text))
unfolding lowered_within
tags_as_texts = (refl, refl, refl)

-- the first call of another kind is the answer, also of a value that refuses
other_kinds_than_text :
    (text_collected (fails_after (one_text true (codes "a") ++ (Call.Truth true ∷ Call.Null ∷ []))) ≡ Err (error.Unsupported word.Boolean word.Text))
    × (text_collected (makes (Call.Begin Head.Map None ∷ [])) ≡ Err (error.Unsupported word.Sequence word.Text))
    × (text_collected (makes (Call.BinaryBegin None ∷ [])) ≡ Err (error.Unsupported word.Sequence word.Text))
    × (text_collected (makes (Call.Begin (Head.RecordTuple no_name) None ∷ [])) ≡ Err (error.Unsupported word.Sequence word.Text))
unfolding lowered_within
other_kinds_than_text = (refl, refl, refl, refl)

-- a value that makes no call and refuses
refused_at_once :
    (text_collected (fails_after []) ≡ Err (error.InvalidValue word.FailedToStream)) × (binary_collected (fails_after []) ≡ Err (error.InvalidValue word.FailedToStream))
refused_at_once = (refl, refl)

-- ---- binaries

a_slice : binary_collected (makes (Call.BinaryBegin (Some 8) ∷ Call.BinaryFragment true (codes "a string") ∷ Call.BinaryEnd ∷ [])) ≡ lent (codes "a string")
unfolding lowered_within
a_slice = refl

an_array : binary_collected (makes (Call.TaggedBegin (tag_alone constant_size_tag) ∷ Call.Begin Head.Seq (Some 8)
    ∷ (flat_map byte_item (codes "a string") ++ (Call.End Head.Seq ∷ Call.TaggedEnd (tag_alone constant_size_tag) ∷ [])))) ≡ copied (codes "a string")
unfolding lowered_within
an_array = refl

-- at any depth, in tuples too, and outside any sequence
bytes_anywhere :
    (binary_collected (makes (Call.Begin (Head.Tuple no_name) (Some 1) ∷ Call.PartBegin (Slot.Place None (offset 0)) ∷ Call.Begin Head.Seq None
    ∷ (byte_item 1 ++ (Call.End Head.Seq ∷ Call.PartEnd (Slot.Place None (offset 0)) ∷ Call.End (Head.Tuple no_name) ∷ Call.Int IntType.U8 (pos 2) ∷ [])))) ≡ copied (1 ∷ 2 ∷ []))
    × (binary_collected (makes (Call.BinaryFragment true (9 ∷ []) ∷ Call.Int IntType.U8 (pos 2) ∷ [])) ≡ copied (9 ∷ 2 ∷ []))
unfolding lowered_within
bytes_anywhere = (refl, refl)

a_truth : binary_collected (makes (Call.Truth true ∷ [])) ≡ Err (error.Unsupported word.Boolean word.Binary)
unfolding lowered_within
a_truth = refl

other_kinds_than_binary :
    (binary_collected (makes (Call.Int IntType.U16 (pos 1) ∷ [])) ≡ Err (error.Unsupported word.Integer word.Binary))
    × (binary_collected (makes (Call.Int IntType.U128 (pos 340282366920938463463374607431768211455) ∷ [])) ≡ Err (error.Unsupported word.Text word.Binary))
    × (binary_collected (makes (Call.Begin (Head.Record no_name) None ∷ [])) ≡ Err (error.Unsupported word.Map word.Binary))
    × (binary_collected (makes (Call.PartBegin (Slot.Field None (ident (codes "a"))) ∷ [])) ≡ Err (error.Unsupported word.Text word.Binary))
    × (binary_collected (makes (Call.Standalone none_name ∷ [])) ≡ Err (error.Unsupported word.Null word.Binary))
    × (binary_collected (makes (Call.End Head.Map ∷ Call.PartBegin Slot.Key ∷ [])) ≡ lent [])
unfolding lowered_within digits
other_kinds_than_binary = (refl, refl, refl, refl, refl, refl)
