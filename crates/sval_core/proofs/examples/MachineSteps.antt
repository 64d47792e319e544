-- What the machine as a function makes of some calls, as it computes.
use Rattle.std.specs.Prelude.{◌≡◌, ℕ, suc, pos, Bool, true, false, List, [], ◌∷◌, codes, Option, Some, None, refl}
use Rattle.std.specs.Option.{option_and_then}
use Rattle.sval_label.specs.Calls.{Call, IntType, Head, Slot}
use Rattle.sval_core.specs.Trees.{Value}
use Rattle.sval_core.specs.Names.{tag_alone, no_name, number_tag, ident}
use Rattle.sval_core.specs.Checker.{InText, InTagged, InContainer, State}
use Rattle.sval_core.specs.ManyChecker.{Progress}
use Rattle.sval_core.specs.CheckerSteps.{unfilled, next, is_whole_tree, next_of_list}

abbrev after_all : State → List Call → Option State
after_all s [] = Some s
after_all s (call ∷ calls) = option_and_then (λ t. after_all t calls) (next s call)

abbrev after : List Call → Option State
after calls = after_all (unfilled []) calls

-- whether they spell a tree, if they can be completed
abbrev whole : List Call → Option Bool
whole calls = option_and_then (λ s. Some (is_whole_tree s)) (after calls)

-- a size counts down, and the greatest one too
texts :
    (after (Call.TextBegin (Some 3) ∷ Call.TextFragment true (codes "ab") ∷ []) ≡ Some (unfilled (InText (Some 1) ∷ [])))
    × (after (Call.TextBegin (Some 1) ∷ Call.TextFragment true (codes "ab") ∷ []) ≡ None)
    × (after (Call.TextBegin (Some 1) ∷ Call.TextFragment true [] ∷ Call.TextEnd ∷ []) ≡ None)
    × (whole (Call.TextBegin (Some 2) ∷ Call.TextFragment true (codes "a") ∷ Call.TagHint (codes "T") ∷ Call.TextFragment false (codes "b") ∷ Call.TextEnd ∷ []) ≡ Some true)
    × (whole (Call.Begin Head.Seq (Some 18446744073709551615) ∷ Call.PartBegin Slot.Item ∷ []) ≡ Some false)
    × (after (Call.Begin Head.Seq (Some 18446744073709551615) ∷ Call.End Head.Seq ∷ []) ≡ None)
texts = (refl, refl, refl, refl, refl, refl)

-- a value stands in an item, and one alone, and after a whole value nothing stands but hints
places :
    (after (Call.Begin Head.Seq None ∷ Call.Null ∷ []) ≡ None)
    × (after (Call.Begin Head.Seq None ∷ Call.PartBegin Slot.Item ∷ Call.PartEnd Slot.Item ∷ []) ≡ None)
    × (after (Call.Begin Head.Seq None ∷ Call.PartBegin Slot.Item ∷ Call.Null ∷ Call.Null ∷ []) ≡ None)
    × (after (Call.Null ∷ Call.Null ∷ []) ≡ None)
    × (whole (Call.Null ∷ Call.TagHint (codes "T") ∷ []) ≡ Some true)
    × (whole [] ≡ Some false)
places = (refl, refl, refl, refl, refl, refl)

-- a key waits for its value, and belongs with it to one entry
maps :
    (after (Call.Begin Head.Map (Some 1) ∷ Call.PartBegin Slot.Key ∷ Call.Null ∷ Call.PartEnd Slot.Key ∷ [])
    ≡ Some (unfilled (InContainer Head.Map Value (Some 0) ∷ [])))
    × (after (Call.Begin Head.Map None ∷ Call.PartBegin Slot.Key ∷ Call.Null ∷ Call.PartEnd Slot.Key ∷ Call.End Head.Map ∷ []) ≡ None)
    × (after (Call.Begin Head.Map None ∷ Call.PartBegin Slot.Value ∷ []) ≡ None)
    × (whole (Call.Begin Head.Map (Some 1) ∷ Call.PartBegin Slot.Key ∷ Call.Null ∷ Call.PartEnd Slot.Key
    ∷ Call.PartBegin Slot.Value ∷ Call.Null ∷ Call.PartEnd Slot.Value ∷ Call.End Head.Map ∷ []) ≡ Some true)
maps = (refl, refl, refl, refl)

-- an enum may be empty and holds no plain value, and a tagged value is not empty
enums :
    (after (Call.EnumBegin no_name ∷ Call.Null ∷ []) ≡ None)
    × (whole (Call.EnumBegin no_name ∷ Call.EnumEnd no_name ∷ []) ≡ Some true)
    × (whole (Call.EnumBegin no_name ∷ Call.Standalone (tag_alone (codes "A")) ∷ Call.EnumEnd no_name ∷ []) ≡ Some true)
    × (after (Call.EnumBegin no_name ∷ Call.Begin Head.Map None ∷ []) ≡ None)
    × (after (Call.TaggedBegin no_name ∷ Call.TaggedEnd no_name ∷ []) ≡ None)
enums = (refl, refl, refl, refl, refl)

-- under the tag of a number stands one text, and an end says what its begin said, but for hints
names :
    (after (Call.TaggedBegin (tag_alone number_tag) ∷ Call.Int IntType.I32 (pos 1) ∷ []) ≡ None)
    × (after (Call.TaggedBegin (tag_alone number_tag) ∷ Call.TextBegin None ∷ []) ≡ Some (unfilled (InText None ∷ InTagged (tag_alone number_tag) ∷ [])))
    × (after (Call.TaggedBegin (tag_alone number_tag) ∷ Call.BinaryBegin None ∷ []) ≡ None)
    × (after (Call.TaggedBegin (tag_alone (codes "A")) ∷ Call.Null ∷ Call.TaggedEnd (tag_alone (codes "B")) ∷ []) ≡ None)
    × (whole (Call.Begin (Head.Record no_name) (Some 1) ∷ Call.PartBegin (Slot.Field None (ident (codes "a"))) ∷ Call.Null
    ∷ Call.PartEnd (Slot.Field None (record { text = codes "a"; tag = None; is_static = false })) ∷ Call.End (Head.Record no_name) ∷ []) ≡ Some true)
    × (after (Call.Begin (Head.Record no_name) None ∷ Call.PartBegin (Slot.Field None (ident (codes "a"))) ∷ Call.Null
    ∷ Call.PartEnd (Slot.Field None (ident (codes "b"))) ∷ []) ≡ None)
names = (refl, refl, refl, refl, refl, refl)

-- two values in a row, with a hint between them
abbrev all_from : ℕ → Progress → List Call → Option Progress
all_from n now [] = Some now
all_from n now (call ∷ calls) = option_and_then (λ later. all_from (suc n) later calls) (next_of_list n now call)

two : all_from 1 (record { filled = false; frames = []; ends = [] }) (Call.Null ∷ Call.TagHint (codes "T") ∷ Call.EnumBegin no_name ∷ Call.EnumEnd no_name ∷ [])
    ≡ Some (record { filled = true; frames = []; ends = 1 ∷ 4 ∷ [] })
two = refl
