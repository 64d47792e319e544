-- What some calls are lowered to, as it computes.
use Rattle.std.specs.Prelude.{◌≡◌, ℕ, pos, negsuc, true, false, List, [], ◌∷◌, codes, Some, None, refl}
use Rattle.std.specs.Fmt.{digits}
use Rattle.sval_label.specs.Calls.{IntType, Head, Slot, Label, Name, Call}
use Rattle.sval_core.specs.Trees as tree
use Rattle.sval_core.specs.Trees.{none, part}
use Rattle.sval_core.specs.Names.{number_tag, tag_alone, no_name, untagged_offset, some_name, none_name}
use Rattle.sval_lower.specs.BaseTrees.{base_tree}
use Rattle.sval_lower.specs.Lower.{lower}
use Rattle.sval_lower.specs.Lowered.{is_base, is_for_texts, is_for_binaries, lowered, lowered_within}

abbrev label : List ℕ → Label
label text = record { text = text; tag = None; is_static = false }

abbrev named : List ℕ → Name
named text = record { tag = None; label = Some (label text); index = None }

-- a map's key begins a pair
key_begins : lower (Call.PartBegin Slot.Key) ≡ Call.PartBegin Slot.Item ∷ Call.Begin (Head.Tuple no_name) (Some 2) ∷ Call.PartBegin (Slot.Place None (untagged_offset 0)) ∷ []
key_begins = refl

value_ends : lower (Call.PartEnd Slot.Value) ≡ Call.PartEnd (Slot.Place None (untagged_offset 1)) ∷ Call.End (Head.Tuple no_name) ∷ Call.PartEnd Slot.Item ∷ []
value_ends = refl

-- the numbers around the range of 64 bits with a sign
greatest_that_fits : lower (Call.Int IntType.U128 (pos 9223372036854775807)) ≡ Call.Int IntType.I64 (pos 9223372036854775807) ∷ []
greatest_that_fits = refl

first_past : lower (Call.Int IntType.U128 (pos 9223372036854775808))
    ≡ Call.TaggedBegin (tag_alone number_tag) ∷ Call.TextBegin None ∷ Call.TextFragment false (codes "9223372036854775808") ∷ Call.TextEnd ∷ Call.TaggedEnd (tag_alone number_tag) ∷ []
unfolding digits
first_past = refl

least_that_fits : lower (Call.Int IntType.I128 (negsuc 9223372036854775807)) ≡ Call.Int IntType.I64 (negsuc 9223372036854775807) ∷ []
least_that_fits = refl

next_below : lower (Call.Int IntType.I128 (negsuc 9223372036854775808))
    ≡ Call.TaggedBegin (tag_alone number_tag) ∷ Call.TextBegin None ∷ Call.TextFragment false (codes "-9223372036854775809") ∷ Call.TextEnd ∷ Call.TaggedEnd (tag_alone number_tag) ∷ []
unfolding digits
next_below = refl

-- a static label is lent, any other is not, and what says that there is no value is null
tags_lowered :
    (lower (Call.Standalone some_name) ≡ Call.TaggedBegin some_name ∷ Call.TextBegin (Some 4) ∷ Call.TextFragment true (codes "Some") ∷ Call.TextEnd ∷ Call.TaggedEnd some_name ∷ [])
    × (lower (Call.Standalone (named (codes "a"))) ≡ Call.TaggedBegin (named (codes "a")) ∷ Call.TextBegin (Some 1) ∷ Call.TextFragment false (codes "a") ∷ Call.TextEnd ∷ Call.TaggedEnd (named (codes "a")) ∷ [])
    × (lower (Call.Standalone none_name) ≡ Call.TaggedBegin none_name ∷ Call.Null ∷ Call.TaggedEnd none_name ∷ [])
    × (lower (Call.Standalone (tag_alone number_tag)) ≡ Call.TaggedBegin (tag_alone number_tag) ∷ Call.Null ∷ Call.TaggedEnd (tag_alone number_tag) ∷ [])
tags_lowered = (refl, refl, refl, refl)

-- a record of one field, told in base calls: a sequence of one pair, which is a sequence of two
record_in_base_calls :
    lowered is_base (Call.Begin (Head.Record (named (codes "R"))) (Some 1) ∷ Call.PartBegin (Slot.Field None (label (codes "a"))) ∷ Call.Int IntType.U8 (pos 1)
    ∷ Call.PartEnd (Slot.Field None (label (codes "a"))) ∷ Call.End (Head.Record (named (codes "R"))) ∷ [])
    ≡ Call.Begin Head.Seq (Some 1)
    ∷ Call.PartBegin Slot.Item ∷ Call.Begin Head.Seq (Some 2)
    ∷ Call.PartBegin Slot.Item ∷ Call.TextBegin (Some 1) ∷ Call.TextFragment false (codes "a") ∷ Call.TextEnd ∷ Call.PartEnd Slot.Item
    ∷ Call.PartBegin Slot.Item ∷ Call.Int IntType.I64 (pos 1) ∷ Call.PartEnd Slot.Item
    ∷ Call.End Head.Seq ∷ Call.PartEnd Slot.Item
    ∷ Call.End Head.Seq ∷ []
unfolding lowered_within
record_in_base_calls = refl

-- a binary is a sequence of numbers
binary_in_base_calls :
    lowered is_base (Call.BinaryBegin (Some 2) ∷ Call.BinaryFragment true (0 ∷ 255 ∷ []) ∷ Call.BinaryEnd ∷ [])
    ≡ Call.Begin Head.Seq (Some 2) ∷ Call.PartBegin Slot.Item ∷ Call.Int IntType.I64 (pos 0) ∷ Call.PartEnd Slot.Item
    ∷ Call.PartBegin Slot.Item ∷ Call.Int IntType.I64 (pos 255) ∷ Call.PartEnd Slot.Item ∷ Call.End Head.Seq ∷ []
unfolding lowered_within
binary_in_base_calls = refl

-- where borrowed fragments are taken they stay so
fragments_for_texts :
    (lowered is_for_texts (Call.TextFragment true (codes "a") ∷ []) ≡ Call.TextFragment true (codes "a") ∷ [])
    × (lowered is_base (Call.TextFragment true (codes "a") ∷ []) ≡ Call.TextFragment false (codes "a") ∷ [])
unfolding lowered_within
fragments_for_texts = (refl, refl)

-- bytes are taken by a buffer for binaries, and so are maps; larger numbers go on to 64 bits
numbers_for_binaries :
    (lowered is_for_binaries (Call.Int IntType.U8 (pos 7) ∷ Call.Int IntType.U16 (pos 7) ∷ []) ≡ Call.Int IntType.U8 (pos 7) ∷ Call.Int IntType.I64 (pos 7) ∷ [])
    × (lowered is_for_binaries (Call.Begin (Head.RecordTuple no_name) None ∷ Call.End Head.Map ∷ []) ≡ Call.Begin Head.Map None ∷ Call.End Head.Seq ∷ [])
    × (lowered is_for_binaries (Call.Begin (Head.Tuple no_name) None ∷ Call.EnumBegin no_name ∷ Call.TagHint number_tag ∷ []) ≡ Call.Begin Head.Seq None ∷ [])
unfolding lowered_within
numbers_for_binaries = (refl, refl, refl)

-- the tree of the record above, and that of a binary
base_trees :
    (base_tree (tree.Container (Head.Record (named (codes "R"))) (part (Slot.Field None (label (codes "a"))) (tree.Int IntType.U8 (pos 1)) none))
    ≡ tree.Container Head.Seq (part Slot.Item (tree.Container Head.Seq (part Slot.Item (tree.Text (codes "a")) (part Slot.Item (tree.Int IntType.I64 (pos 1)) none))) none))
    × (base_tree (tree.Tagged no_name (tree.Binary (7 ∷ []))) ≡ tree.Container Head.Seq (part Slot.Item (tree.Int IntType.I64 (pos 7)) none))
base_trees = (refl, refl)
