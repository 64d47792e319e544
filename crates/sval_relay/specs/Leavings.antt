-- What is left on a sink of a script, where it has to spell one value, and where it may spell many.
use Rattle.std.specs.Prelude.{◌≡◌, ℕ, Bool, List, [], ◌∷◌, ◌++◌, Option, Some, None}
use Rattle.sval_label.specs.Calls.{Call}
use Rattle.sval_core.specs.Trees.{Tree}
use Rattle.sval_core.specs.Many.{slice}
use Rattle.sval_json.specs.Number.{Refusal}
use Rattle.sval_json.specs.declared.style.Variants.{Variants}
use Rattle.sval_json.specs.Steps.{written_in}
use Rattle.sval_script.specs.Lines.{Lines, Good, Bad, lines}
use Rattle.sval_relay.specs.Verdict.{TreeFormat, left, ending, SpellTrees}

-- ---- tree by tree

-- what the writer's steps write for a tree's calls, and if none of them was refused its ending and what comes later
abbrev pub with_rest : Option Refusal → List ℕ → List ℕ → List ℕ → List ℕ
with_rest None bytes end later = bytes ++ (end ++ later)
with_rest (Some why) bytes end later = bytes

-- what is written where the calls between the ends of trees go to the writer, one tree's after the other
abbrev pub written_slices : Variants → List ℕ → ℕ → List ℕ → List Call → List ℕ
written_slices style end from [] calls = []
written_slices style end from (to ∷ ends) calls =
    with_rest (written_in style (slice from to calls)).refusal (written_in style (slice from to calls)).written end (written_slices style end to ends calls)

-- ---- of a script

-- what is written for a script over devices that don't fail: what its trees leave, and nothing where it spells none
abbrev pub IsLeftByCalls : TreeFormat → Bool → List Call → List ℕ → Type 0
IsLeftByCalls asked many calls bytes =
    ((trees : List Tree) → SpellTrees many calls trees → bytes ≡ left asked (ending asked many) trees)
    × (((trees : List Tree) → SpellTrees many calls trees → ⊥) → bytes ≡ [])

-- nothing where a line is bad
abbrev pub IsLeftByLines : TreeFormat → Bool → Lines → List ℕ → Type 0
IsLeftByLines asked many (Bad n) bytes = bytes ≡ []
IsLeftByLines asked many (Good calls) bytes = IsLeftByCalls asked many calls bytes

-- these bytes are left of the script
abbrev pub IsLeft : TreeFormat → Bool → List ℕ → List ℕ → Type 0
IsLeft asked many script bytes = IsLeftByLines asked many (lines script) bytes
