-- The calls of values that never refuse, as plain lists.
use Rattle.std.specs.Prelude.{ℕ, Bool, true, List, [], ◌∷◌, ◌++◌, length, flat_map, Some}
use Rattle.sval_label.specs.Calls.{Head, Slot, Call}

-- a text in one fragment after its length
abbrev pub text_calls : (borrowed : Bool) → List ℕ → List Call
text_calls borrowed text = Call.TextBegin (Some (length text)) ∷ Call.TextFragment borrowed text ∷ Call.TextEnd ∷ []

-- a binary in one borrowed fragment after its length
abbrev pub binary_calls : List ℕ → List Call
binary_calls bytes = Call.BinaryBegin (Some (length bytes)) ∷ Call.BinaryFragment true bytes ∷ Call.BinaryEnd ∷ []

-- a part of a container, around the calls of its value
abbrev pub part_calls : Slot → List Call → List Call
part_calls slot calls = Call.PartBegin slot ∷ (calls ++ Call.PartEnd slot ∷ [])

-- a container that tells how many entries its parts are
abbrev pub container_calls : Head → ℕ → List Call → List Call
container_calls head size parts = Call.Begin head (Some size) ∷ (parts ++ Call.End head ∷ [])

-- an item of a sequence
abbrev pub item_calls : {T : Type 0} → (T → List Call) → T → List Call
item_calls calls x = part_calls Slot.Item (calls x)

-- a sequence of items, which tells how many they are
abbrev pub seq_calls : {T : Type 0} → (T → List Call) → List T → List Call
seq_calls calls xs = container_calls Head.Seq (length xs) (flat_map (item_calls calls) xs)
