-- What paths of the program are.
use Rattle.std.specs.Prelude.{List, map, String, Vec, string_bytes}
use Rattle.std.specs.Borrow.{Bor}
use Rattle.sval_filter.specs.Paths.{Path}

-- the labels of a path
abbrev pub labels_in : {A : Type 0} → List (String A) → Path
labels_in texts = map string_bytes texts

-- paths that own their labels
abbrev pub paths_in : {A B : Type 0} → List (Vec (String A) B) → List Path
paths_in paths = map (λ path. labels_in path.items) paths

-- paths that are lent
abbrev pub rests_in : {A : Type 0} → List (Bor (List (String A))) → List Path
rests_in rests = map (λ rest. labels_in rest.now) rests
