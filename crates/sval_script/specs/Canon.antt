-- The one canonical script of a tree, and of a list of trees; and what a value emits, canonically.
use Rattle.std.specs.Prelude.{ℕ, List, flat_map}
use Rattle.sval_core.specs.Trees.{Tree, calls_of}
use Rattle.sval_core.specs.Law.{Emission}
use Rattle.sval_script.specs.Printed.{canonical_calls, printed}

-- the printed lines of the tree's canonical calls
abbrev pub canon : Tree → List ℕ
canon tree = printed (calls_of tree)

-- the trees' canonical scripts, one after another
abbrev pub canon_all : List Tree → List ℕ
canon_all trees = flat_map canon trees

-- the canonical calls of what a value emits
abbrev pub as_canonical : Emission → Emission
as_canonical emission = record { calls = canonical_calls emission.calls; refuses = emission.refuses }
