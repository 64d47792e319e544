-- Paths of labels, and what a rule makes of a part of a value by them.
use Rattle.std.specs.Prelude.{ℕ, ◌==◌, Bool, if◌then◌else◌, List, [], ◌∷◌, ◌++◌, Option, Some, None, length, option_map, bytes_eq}
use Rattle.std.specs.List.{filter_map, list_any, slice_split}
use Rattle.sval_label.specs.Texts.{is_empty}
pub use Rattle.sval_filter.specs.declared.paths.Rule.{Rule}
pub use Rattle.sval_filter.specs.declared.paths.Rule.TheVariants.{Drop, Keep}

-- the labels from the outermost one on, each as its text
abbrev pub Path : Type 0
Path = List (List ℕ)

-- ---- how paths are made

-- with a path of one label more
abbrev pub with_path : List Path → List ℕ → List Path
with_path paths label = paths ++ ((label ∷ []) ∷ [])

-- with a label more at the end of the last path, if there is one
abbrev pub with_label : List Path → List ℕ → Option (List Path)
with_label [] label = None
with_label (path ∷ []) label = Some ((path ++ (label ∷ [])) ∷ [])
with_label (path ∷ next ∷ paths) label = option_map (λ rest. path ∷ rest) (with_label (next ∷ paths) label)

-- the labels between the dots of a word
abbrev pub labels_of : List ℕ → Path
labels_of word = slice_split (λ byte. byte == 46) word

-- the word names no path
abbrev pub is_bad_word : List ℕ → Bool
is_bad_word word = list_any is_empty (labels_of word)

-- ---- what paths say of a label

-- the rest of a path behind a label that it begins with
abbrev pub tail_of : List ℕ → Path → Option Path
tail_of label [] = None
tail_of label (first ∷ rest) = if bytes_eq first label then Some rest else None

-- the rests of the paths that begin with this label
abbrev pub tails : List ℕ → List Path → List Path
tails label paths = filter_map (tail_of label) paths

-- one of the paths ends here
abbrev pub has_end : List Path → Bool
has_end paths = list_any (λ path. length path == 0) paths

-- what becomes of a part: it is left out, it stays whole, or what is in it is pruned with these paths
pub data Fate : Type 0 where
  LeftOut : Fate
  Stays : Fate
  Within : List Path → Fate

-- of a field or an entry, by the rests of the paths that begin with its label
abbrev pub fate_by_tails : Rule → List Path → Fate
fate_by_tails Drop rests = if has_end rests then LeftOut else Within rests
fate_by_tails Keep [] = LeftOut
fate_by_tails Keep rests = if has_end rests then Stays else Within rests

-- the same by its label, if it has one
abbrev pub fate_of : Rule → List Path → Option (List ℕ) → Fate
fate_of rule paths (Some label) = fate_by_tails rule (tails label paths)
fate_of Drop paths None = Stays
fate_of Keep paths None = LeftOut
