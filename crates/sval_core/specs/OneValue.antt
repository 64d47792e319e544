-- Values whose calls are one whole value, and streams that take such a value unseen.
use Rattle.std.specs.Prelude.{◌≡◌, false, List}
use Rattle.std.specs.List.{AllByRecursion}
use Rattle.sval_core.specs.Trees.{Tree}
use Rattle.sval_core.specs.Spells.{Spells}
use Rattle.sval_core.specs.Law.{Standing, Law, Emission, Streams}

-- the value doesn't refuse, and its calls spell a tree
pub record IsOneValue (e : Emission) : Type 0 where
  pub willing : e.refuses ≡ false
  pub spells : (tree : Tree) × Spells e.calls tree

-- each of these emits one whole value
abbrev pub EachIsOneValue : {T : Type 0} → (T → Emission) → List T → Type 0
EachIsOneValue emission xs = AllByRecursion (λ x. IsOneValue (emission x)) xs

-- the key of each of these entries emits one whole value, and so does its value
abbrev pub EachEntryIsWhole : {K V : Type 0} → (K → Emission) → (V → Emission) → List (K × V) → Type 0
EachEntryIsWhole key value entries = AllByRecursion (λ entry. IsOneValue (key entry.0) × IsOneValue (value entry.1)) entries

-- one whole value was taken, whichever it is
abbrev pub TakesAnyValue : {V : Type 0} → Law V → Standing V → Standing V → Type 0
TakesAnyValue law old new = (e : Emission) → IsOneValue e → Streams law old e new
