-- A stack as a list with the innermost first.
use Rattle.std.specs.Prelude.{List, [], ◌∷◌, Option, Some, None}

-- the innermost, if there is one
abbrev pub top_of : {A : Type 0} → List A → Option A
top_of [] = None
top_of (x ∷ xs) = Some x

-- what stands around the innermost
abbrev pub below : {A : Type 0} → List A → List A
below [] = []
below (x ∷ xs) = xs
