-- At which ends of parts a filter may take memory, as it computes: at that of a key that is a text, and in no other key.
use Rattle.std.specs.Prelude.{◌≡◌, Bool, pos, true, false, List, [], ◌∷◌, ◌++◌, None, Some, codes, fold, refl}
use Rattle.sval_label.specs.Calls.{Call, Head, Slot, IntType}
use Rattle.sval_buffer.specs.Forest.{take, may_grow}
use Rattle.sval_filter.specs.Paths.{Drop}
use Rattle.sval_filter.specs.Filtering.{Filtering, fresh, kept_after, may_take_memory}
use Rattle.sval_filter.proofs.examples.PrunedTrees.{by_words, field}

-- in a filter that drops by one path, at the end of a part behind these calls
abbrev may_grow_at : Slot → List Call → Bool
may_grow_at slot calls =
    let kept : Filtering = fold (λ kept call. kept_after Drop (by_words (codes "k1" ∷ [])) kept call) fresh calls in
    may_take_memory (by_words (codes "k1" ∷ [])) kept (Call.PartEnd slot)

-- a key of a map
abbrev key : List Call → List Call
key calls = Call.Begin Head.Map None ∷ Call.PartBegin Slot.Key ∷ calls

abbrev text : List Call
text = Call.TextBegin None ∷ Call.TextFragment true (codes "k") ∷ Call.TextEnd ∷ []

abbrev number : List Call
number = Call.Int IntType.I32 (pos 1) ∷ []

at_keys : (may_grow_at Slot.Key (key text) ≡ true) × (may_grow_at Slot.Key (key (Call.TagHint (codes "NUMBER") ∷ text)) ≡ true)
    × (may_grow_at Slot.Key (key number) ≡ false)
unfolding take may_grow
at_keys = (refl, refl, refl)

-- a map as a key: its own keys and values take none, and neither does its end
in_a_key : (may_grow_at Slot.Key (key (key text)) ≡ false)
    × (may_grow_at Slot.Value (key (key text ++ (Call.PartEnd Slot.Key ∷ Call.PartBegin Slot.Value ∷ text))) ≡ false)
    × (may_grow_at Slot.Key (key (key text ++ (Call.PartEnd Slot.Key ∷ Call.PartBegin Slot.Value ∷ number ++ (Call.PartEnd Slot.Value ∷ Call.End Head.Map ∷ [])))) ≡ false)
unfolding take may_grow
in_a_key = (refl, refl, refl)

-- nor do other parts
elsewhere : (may_grow_at Slot.Value (key text ++ (Call.PartEnd Slot.Key ∷ Call.PartBegin Slot.Value ∷ text)) ≡ false)
    × (may_grow_at Slot.Item (Call.Begin Head.Seq None ∷ Call.PartBegin Slot.Item ∷ text) ≡ false)
    × (may_grow_at (field (codes "k1")) (Call.Begin Head.Seq (Some 1) ∷ Call.PartBegin (field (codes "k1")) ∷ text) ≡ false)
unfolding take may_grow
elsewhere = (refl, refl, refl)
