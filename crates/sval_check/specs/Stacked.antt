-- Stacks of the parts of names, each with the innermost first.
use Rattle.std.specs.Prelude.{ℕ, ℤ, pos, negsuc, ◌-◌, List, [], ◌∷◌, length, take, drop, Option, Some, None, Bool, true, false}
use Rattle.sval_label.specs.Calls.{Tag, Label, Index}
use Rattle.sval_core.specs.Stacks.{top_of, below}
use Rattle.sval_check.specs.declared.indexes.Mark.{Mark}

-- a stack with one more, if there is one
abbrev pub stacked : {A : Type 0} → Option A → List A → List A
stacked None xs = xs
stacked (Some x) xs = x ∷ xs

-- the innermost of a stack, where one is meant
abbrev pub top_if : {A : Type 0} → Bool → List A → Option A
top_if true xs = top_of xs
top_if false xs = None

-- a stack without its innermost, where one is meant
abbrev pub below_if : {A : Type 0} → Bool → List A → List A
below_if true xs = below xs
below_if false xs = xs

-- the innermost is true
abbrev pub is_top : List Bool → Bool
is_top [] = false
is_top (b ∷ bs) = b

-- the innermost label, or an empty one where there is none
abbrev pub label_in : List Label → Label
label_in [] = record { text = []; tag = None; is_static = false }
label_in (label ∷ labels) = label

-- the innermost index, or 0 where there is none
abbrev pub index_in : List Index → Index
index_in [] = record { number = pos 0; tag = None }
index_in (index ∷ indexes) = index

-- the labels with these sizes, which say of each whether it has a tag, the tags of those that do, and all texts, of which the last are the innermost's
abbrev pub kept_labels : List ℕ → List Bool → List Tag → List ℕ → List Label
kept_labels [] tagged tags texts = []
kept_labels (size ∷ sizes) tagged tags texts =
    record { text = drop (length texts - size) texts; tag = top_if (is_top tagged) tags; is_static = false }
    ∷ kept_labels sizes (below tagged) (below_if (is_top tagged) tags) (take (length texts - size) texts)

-- a number is below 0
abbrev pub is_below_0 : ℤ → Bool
is_below_0 (pos n) = false
is_below_0 (negsuc n) = true

-- a number that is so far below -1, or else this number
abbrev pub signed_by : Bool → ℕ → ℤ
signed_by false n = pos n
signed_by true n = negsuc n

-- what is kept of the innermost index beside its number and tag, or nothing where there is none
abbrev pub mark_in : List Mark → Mark
mark_in [] = record { is_negative = false; is_tagged = false }
mark_in (mark ∷ marks) = mark

-- the innermost number, or 0 where there is none
abbrev pub innermost_number : List ℕ → List Mark → ℤ
innermost_number [] marks = pos 0
innermost_number (number ∷ numbers) marks = signed_by (mark_in marks).is_negative number

-- the indexes with these numbers, which say of each whether it is negative and has a tag, and the tags of those that do
abbrev pub kept_indexes : List ℕ → List Mark → List Tag → List Index
kept_indexes [] marks tags = []
kept_indexes (number ∷ numbers) marks tags =
    record { number = signed_by (mark_in marks).is_negative number; tag = top_if (mark_in marks).is_tagged tags }
    ∷ kept_indexes numbers (below marks) (below_if (mark_in marks).is_tagged tags)
