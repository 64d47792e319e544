-- The laws of captured values and of verdicts, as facts.
use Rattle.std.specs.Prelude.{◌≡◌, ℕ, List}
use Rattle.sval_label.specs.Calls.{Call}
use Rattle.sval_core.specs.Spells.{Spells}
use Rattle.sval_core.specs.Trees.{Tree}
use Rattle.sval_buffer.specs.CapturedValues.{RunsOut}
use Rattle.sval_program.specs.Verdict.{Verdict, IsVerdict}

-- whatever calls spell a tree, capturing one of them may take memory
abbrev pub CapturingTakesMemory : Type 0
CapturingTakesMemory = (calls : List Call) (tree : Tree) → Spells calls tree → RunsOut calls

-- each script has one verdict, and no second one
abbrev pub OneVerdict : {A : Type 0} → (A → Tree → Type 0) → Type 0
OneVerdict {A} Gives =
    (script : List ℕ) → (answer : Verdict A) × IsVerdict Gives answer script × ((other : Verdict A) → IsVerdict Gives other script → answer ≡ other)
