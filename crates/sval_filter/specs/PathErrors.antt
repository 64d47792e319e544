-- What making paths answers, and what it leaves.
use Rattle.std.specs.Prelude.{◌≡◌, ℕ, true, false, List, [], ◌∷◌, ◌++◌, Some, is_some, Result, Ok, Err}
use Rattle.sval_filter.specs.Paths.{Path, with_label, labels_of, is_bad_word}
use Rattle.sval_filter.specs.declared.paths.PathError.{PathError}
use Rattle.sval_filter.specs.declared.paths.PathError.TheVariants.{NoPath, BadWord, NoMemory}

-- a path is there beside the others, or memory was wanting
abbrev pub AddsPath : List Path → Path → Result (Unit {0}) PathError → List Path → Type 0
AddsPath old path (Ok done) new = new ≡ old ++ (path ∷ [])
AddsPath old path (Err NoMemory) new = new ≡ old
AddsPath old path (Err other) new = ⊥

-- the last path has a label more; there is none; or memory was wanting for the label
abbrev pub AddsLabel : List Path → List ℕ → Result (Unit {0}) PathError → List Path → Type 0
AddsLabel old label (Ok done) new = with_label old label ≡ Some new
AddsLabel old label (Err NoPath) new = (old ≡ []) × (new ≡ old)
AddsLabel old label (Err NoMemory) new = (is_some (with_label old label) ≡ true) × (new ≡ old)
AddsLabel old label (Err BadWord) new = ⊥

-- the path of a word is there beside the others; the word names none; or it does, and memory was wanting
abbrev pub AddsWord : List Path → List ℕ → Result (Unit {0}) PathError → List Path → Type 0
AddsWord old word (Err BadWord) new = (is_bad_word word ≡ true) × (new ≡ old)
AddsWord old word result new = (is_bad_word word ≡ false) × AddsPath old (labels_of word) result new
