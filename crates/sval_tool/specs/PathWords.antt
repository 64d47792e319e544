-- The labels of the path that a word names.
use Rattle.std.specs.Prelude.{◌≡◌, ℕ, ◌==◌, Bool, true, false, ◌&&◌, if◌then◌else◌, List, [], ◌∷◌, ◌++◌, codes, chars, encode_utf8, Result, Ok, Err}
use Rattle.std.specs.List.{list_any}
use Rattle.sval_label.specs.Texts.{is_empty}
use Rattle.sval_filter.specs.Paths.{Path}
use Rattle.sval_filter.specs.declared.paths.PathError.{PathError}
use Rattle.sval_filter.specs.declared.paths.PathError.TheVariants.{NoPath, BadWord, NoMemory}

-- the labels that characters name, behind the bytes that `label` has so far. A dot ends a label, `\.` is a dot in it,
-- and any other backslash is itself; of two in a row neither goes with a dot behind them
abbrev pub labels_from : List ℕ → List ℕ → Path
labels_from label [] = label ∷ []
labels_from label (ch ∷ []) = if ch == 46 then label ∷ [] ∷ [] else (label ++ encode_utf8 ch) ∷ []
labels_from label (ch ∷ next ∷ chs) =
    if ch == 46 then label ∷ labels_from [] (next ∷ chs)
    else if (ch == 92) && (next == 46) then labels_from (label ++ codes ".") chs
    else if (ch == 92) && (next == 92) then labels_from (label ++ codes "\\\\") chs
    else labels_from (label ++ encode_utf8 ch) (next ∷ chs)

-- the labels that a word names
abbrev pub path_labels : List ℕ → Path
path_labels word = labels_from [] (chars word)

-- some label is empty
abbrev pub is_bad_path : List ℕ → Bool
is_bad_path word = list_any is_empty (path_labels word)

-- the characters that are left, where a backslash before them isn't in the label yet
abbrev pub left_chars : Bool → List ℕ → List ℕ
left_chars true chs = 92 ∷ chs
left_chars false chs = chs

-- a label with a backslash that waits
abbrev pub with_backslash : Bool → List ℕ → List ℕ
with_backslash true label = label ++ (92 ∷ [])
with_backslash false label = label

-- the path of these labels is there beside the others, or memory was wanting
abbrev pub AddsLabels : List Path → Path → Result (Unit {0}) PathError → List Path → Type 0
AddsLabels old labels (Ok done) new = new ≡ old ++ (labels ∷ [])
AddsLabels old labels (Err NoMemory) new = Unit {0}
AddsLabels old labels (Err other) new = ⊥

-- the path that a word names is there beside the others; the word names none; or memory was wanting
abbrev pub AddsPathWord : List Path → List ℕ → Result (Unit {0}) PathError → List Path → Type 0
AddsPathWord old word (Ok done) new = (is_bad_path word ≡ false) × (new ≡ old ++ (path_labels word ∷ []))
AddsPathWord old word (Err BadWord) new = is_bad_path word ≡ true
AddsPathWord old word (Err NoMemory) new = Unit {0}
AddsPathWord old word (Err NoPath) new = ⊥
