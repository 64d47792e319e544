-- The laws of verdicts, as facts.
use Rattle.std.specs.Prelude.{◌≡◌, ◌↔◌, ℕ, Bool, false, List, [], ◌∷◌, Result, Ok, Err}
use Rattle.sval_label.specs.Calls.{Call}
use Rattle.sval_core.specs.Trees.{Tree}
use Rattle.sval_core.specs.Spells.{Spells}
use Rattle.sval_core.specs.Many.{AreEnds}
use Rattle.sval_json.specs.declared.style.Variants.{Variants}
use Rattle.sval_json.specs.Json.{Json, compact}
use Rattle.sval_json.specs.Number.{Refusal, InvalidKey, InvalidNumber}
use Rattle.sval_json.specs.Shape.{json_in}
use Rattle.sval_json.specs.Steps.{written_in}
use Rattle.sval_script.specs.Lines.{Good, lines}
use Rattle.sval_script.specs.Canon.{canon_all}
use Rattle.sval_relay.specs.declared.way.Way.{Way}
use Rattle.sval_relay.specs.declared.way.Way.TheVariants.{Direct, Buffered, DirectBeside, BufferedBeside}
use Rattle.sval_relay.specs.Verdict.{RelayVerdict, Text, BadLine, BadCall, Unfinished, Key, Number, TreeFormat, JsonIn, Script, asked_in, left, trees_verdict, IsVerdictOn}
use Rattle.sval_relay.specs.Leavings.{written_slices, IsLeft}

-- ---- verdicts

-- whatever is asked for, each script has one verdict, and no second one
abbrev pub OneRelayVerdict : Type 0
OneRelayVerdict =
    (script : List ℕ) (asked : TreeFormat) (many : Bool)
    → (answer : RelayVerdict) × IsVerdictOn answer script asked many × ((other : RelayVerdict) → IsVerdictOn other script asked many → answer ≡ other)

-- two ways have the same verdict on every script, where one value and where many values may come
abbrev pub Agree : Way → Way → Type 0
Agree way other =
    (script : List ℕ) (many : Bool) (first second : RelayVerdict)
    → IsVerdictOn first script (asked_in way) many → IsVerdictOn second script (asked_in other) many → first ≡ second

-- the two ways of JSON do, in each style of variants
abbrev pub BothJsonWaysAgree : Type 0
BothJsonWaysAgree = Agree Direct Buffered × Agree DirectBeside BufferedBeside

-- ---- one tree

-- a tree's JSON gives its compact text; a refusal of it gives that, with what is written up to there
abbrev pub json_verdict : Result Json Refusal → List ℕ → RelayVerdict
json_verdict (Ok json) written = Text (compact json)
json_verdict (Err InvalidKey) written = Key written
json_verdict (Err InvalidNumber) written = Number written

-- where a script's calls spell a tree, its verdict is what the tree's JSON in the style gives, with what the writer's steps write
-- for these calls; and no other
abbrev pub TreeGivesJson : Type 0
TreeGivesJson =
    (script : List ℕ) (style : Variants) (calls : List Call) (tree : Tree) (answer : RelayVerdict) → lines script ≡ Good calls → Spells calls tree
    → IsVerdictOn answer script (JsonIn style) false ↔ (answer ≡ json_verdict (json_in style tree) (written_in style calls).written)

-- the script's calls spell a tree that has this JSON in the style
pub record ScriptSpellsJson (script : List ℕ) (style : Variants) (json : Json) : Type 0 where
  pub calls : List Call
  pub tree : Tree
  pub good : lines script ≡ Good calls
  pub spells : Spells calls tree
  pub shape : json_in style tree ≡ Ok json

-- a verdict is a text only there, and it is that JSON's
abbrev pub OnlyJsonGivesText : Type 0
OnlyJsonGivesText =
    (script text : List ℕ) (style : Variants) → IsVerdictOn (Text text) script (JsonIn style) false → (json : Json) × ScriptSpellsJson script style json × (text ≡ compact json)

-- ---- what is left

-- a script leaves one text
abbrev pub OneTextLeft : Type 0
OneTextLeft =
    (script : List ℕ) (asked : TreeFormat) (many : Bool)
    → (bytes : List ℕ) × IsLeft asked many script bytes × ((other : List ℕ) → IsLeft asked many script other → bytes ≡ other)

-- it is what the verdict says: its text, or what is written up to a refusal; and nothing where the script spells no whole values
abbrev pub LeftByVerdict : Type 0
LeftByVerdict =
    (script bytes : List ℕ) (asked : TreeFormat) (many : Bool) → IsLeft asked many script bytes
    → ((text : List ℕ) → IsVerdictOn (Text text) script asked many → bytes ≡ text)
    × ((written : List ℕ) → IsVerdictOn (Key written) script asked many → bytes ≡ written)
    × ((written : List ℕ) → IsVerdictOn (Number written) script asked many → bytes ≡ written)
    × ((n : ℕ) → IsVerdictOn (BadLine n) script asked many → bytes ≡ [])
    × ((n : ℕ) → IsVerdictOn (BadCall n) script asked many → bytes ≡ [])
    × (IsVerdictOn Unfinished script asked many → bytes ≡ [])

-- what a tree leaves is what the writer's steps write for any calls that spell it
abbrev pub LeftIsWritten : Type 0
LeftIsWritten =
    (style : Variants) (calls : List Call) (tree : Tree) → Spells calls tree → left (JsonIn style) [] (tree ∷ []) ≡ (written_in style calls).written

-- where the calls between the ends of trees go to the writer, one tree's after the other, what is written is what the trees leave
abbrev pub SlicesLeaveTrees : Type 0
SlicesLeaveTrees =
    (style : Variants) (calls : List Call) (trees : List Tree) (ends end : List ℕ) → AreEnds calls trees ends → written_slices style end 0 ends calls ≡ left (JsonIn style) end trees

-- ---- scripts

-- where scripts are asked for, the text is that of the trees' canonical scripts, one after another
abbrev pub ScriptsAreCanonical : Type 0
ScriptsAreCanonical = (many : Bool) (trees : List Tree) → trees_verdict Script many trees ≡ Text (canon_all trees)
