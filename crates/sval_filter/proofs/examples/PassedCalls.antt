-- What a filter passes on of some calls, as it computes.
use Rattle.std.specs.Prelude.{◌≡◌, pos, true, false, List, [], ◌∷◌, Some, None, codes, refl}
use Rattle.sval_label.specs.Calls.{Call, Head, Slot, IntType}
use Rattle.sval_buffer.specs.Forest.{take, forest_from}
use Rattle.sval_filter.specs.Paths.{Drop, Keep}
use Rattle.sval_filter.specs.Filtering.{fresh, all_due}
use Rattle.sval_filter.proofs.examples.PrunedTrees.{named, field, by_words}

-- a record of two fields, of which one is left out with all that is in it, goes without its size
abbrev record_calls : List Call
record_calls =
    Call.Begin (Head.Record (named (codes "R"))) (Some 2)
    ∷ Call.PartBegin (field (codes "a")) ∷ Call.TagHint (codes "NUMBER") ∷ Call.TextBegin (Some 1) ∷ Call.TextFragment true (codes "x") ∷ Call.TextEnd ∷ Call.PartEnd (field (codes "a"))
    ∷ Call.PartBegin (field (codes "b")) ∷ Call.Int IntType.I32 (pos 1) ∷ Call.PartEnd (field (codes "b"))
    ∷ Call.End (Head.Record (named (codes "R"))) ∷ []

record_passed : all_due Drop (by_words (codes "a" ∷ [])) fresh record_calls
    ≡ Call.Begin (Head.Record (named (codes "R"))) None ∷ Call.PartBegin (field (codes "b")) ∷ Call.Int IntType.I32 (pos 1) ∷ Call.PartEnd (field (codes "b"))
    ∷ Call.End (Head.Record (named (codes "R"))) ∷ []
record_passed = refl

-- a tuple keeps its size, and hints and borrowed fragments are passed on as they are
abbrev sequence_calls : List Call
sequence_calls = Call.Begin Head.Seq (Some 1) ∷ Call.PartBegin Slot.Item ∷ Call.TagHint (codes "NUMBER") ∷ Call.TextBegin None ∷ Call.TextFragment true (codes "x") ∷ Call.TextEnd
    ∷ Call.PartEnd Slot.Item ∷ Call.End Head.Seq ∷ []

sequence_passed : all_due Keep (by_words (codes "a" ∷ [])) fresh sequence_calls ≡ sequence_calls
sequence_passed = refl

-- a key in two pieces, with a hint in it: held, and given back in one computed piece, or left out with its value
abbrev map_calls : List Call
map_calls =
    Call.Begin Head.Map (Some 2)
    ∷ Call.PartBegin Slot.Key ∷ Call.TagHint (codes "NUMBER") ∷ Call.TextBegin None ∷ Call.TextFragment true (codes "k") ∷ Call.TextFragment true (codes "1") ∷ Call.TextEnd ∷ Call.PartEnd Slot.Key
    ∷ Call.PartBegin Slot.Value ∷ Call.Null ∷ Call.PartEnd Slot.Value
    ∷ Call.PartBegin Slot.Key ∷ Call.Truth true ∷ Call.PartEnd Slot.Key ∷ Call.PartBegin Slot.Value ∷ Call.Null ∷ Call.PartEnd Slot.Value
    ∷ Call.End Head.Map ∷ []

entry_left_out : all_due Drop (by_words (codes "k1" ∷ [])) fresh map_calls
    ≡ Call.Begin Head.Map None ∷ Call.PartBegin Slot.Key ∷ Call.Truth true ∷ Call.PartEnd Slot.Key ∷ Call.PartBegin Slot.Value ∷ Call.Null ∷ Call.PartEnd Slot.Value
    ∷ Call.End Head.Map ∷ []
unfolding take forest_from
entry_left_out = refl

entry_kept : all_due Keep (by_words (codes "k1" ∷ [])) fresh map_calls
    ≡ Call.Begin Head.Map None
    ∷ Call.PartBegin Slot.Key ∷ Call.TagHint (codes "NUMBER") ∷ Call.TextBegin (Some 2) ∷ Call.TextFragment false (codes "k1") ∷ Call.TextEnd ∷ Call.PartEnd Slot.Key
    ∷ Call.PartBegin Slot.Value ∷ Call.Null ∷ Call.PartEnd Slot.Value
    ∷ Call.End Head.Map ∷ []
unfolding take forest_from
entry_kept = refl

-- a map as a key has keys of its own, which are held with it
abbrev map_as_key : List Call
map_as_key =
    Call.Begin Head.Map None
    ∷ Call.PartBegin Slot.Key ∷ Call.Begin Head.Map (Some 1) ∷ Call.PartBegin Slot.Key ∷ Call.TextBegin None ∷ Call.TextFragment false (codes "k1") ∷ Call.TextEnd ∷ Call.PartEnd Slot.Key
    ∷ Call.PartBegin Slot.Value ∷ Call.Null ∷ Call.PartEnd Slot.Value ∷ Call.End Head.Map ∷ Call.PartEnd Slot.Key
    ∷ Call.PartBegin Slot.Value ∷ Call.Null ∷ Call.PartEnd Slot.Value ∷ Call.End Head.Map ∷ []

map_as_key_passed : all_due Drop (by_words (codes "k1" ∷ [])) fresh map_as_key
    ≡ Call.Begin Head.Map None
    ∷ Call.PartBegin Slot.Key ∷ Call.Begin Head.Map (Some 1) ∷ Call.PartBegin Slot.Key ∷ Call.TextBegin (Some 2) ∷ Call.TextFragment false (codes "k1") ∷ Call.TextEnd ∷ Call.PartEnd Slot.Key
    ∷ Call.PartBegin Slot.Value ∷ Call.Null ∷ Call.PartEnd Slot.Value ∷ Call.End Head.Map ∷ Call.PartEnd Slot.Key
    ∷ Call.PartBegin Slot.Value ∷ Call.Null ∷ Call.PartEnd Slot.Value ∷ Call.End Head.Map ∷ []
unfolding take forest_from
map_as_key_passed = refl

-- a hint between the key and the value of an entry that is left out is left out with it, and one between entries isn't
abbrev hinted_calls : List Call
hinted_calls =
    Call.Begin Head.Map None ∷ Call.TagHint (codes "NUMBER")
    ∷ Call.PartBegin Slot.Key ∷ Call.TextBegin None ∷ Call.TextFragment true (codes "k") ∷ Call.TextEnd ∷ Call.PartEnd Slot.Key ∷ Call.TagHint (codes "RUST_UNIT")
    ∷ Call.PartBegin Slot.Value ∷ Call.Null ∷ Call.PartEnd Slot.Value ∷ Call.TagHint (codes "NUMBER") ∷ Call.End Head.Map ∷ []

hints_passed : all_due Drop (by_words (codes "k" ∷ [])) fresh hinted_calls
    ≡ Call.Begin Head.Map None ∷ Call.TagHint (codes "NUMBER") ∷ Call.TagHint (codes "NUMBER") ∷ Call.End Head.Map ∷ []
unfolding take forest_from
hints_passed = refl
