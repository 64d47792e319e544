-- What a script has to give.
use Rattle.std.specs.Prelude.{◌≡◌, ℕ, ◌+◌, Bool, true, false, List, [], ◌∷◌, ◌++◌, length, Result, Ok, Err}
use Rattle.sval_label.specs.Calls.{Call}
use Rattle.sval_core.specs.Trees.{Tree, calls_of}
use Rattle.sval_core.specs.Spells.{Spells, IsViable}
use Rattle.sval_core.specs.Many.{SpellsAll, IsViableAll}
use Rattle.sval_json.specs.Json.{compact}
use Rattle.sval_json.specs.Number.{Refusal, InvalidKey, InvalidNumber}
use Rattle.sval_json.specs.declared.style.Variants.{Variants}
use Rattle.sval_json.specs.declared.style.Variants.TheVariants.{Inside, Beside}
use Rattle.sval_json.specs.Shape.{json_in, on_ok, map_ok}
use Rattle.sval_json.specs.Steps.{written_in}
use Rattle.sval_script.specs.Lines.{Lines, Good, Bad, lines}
use Rattle.sval_script.specs.Canon.{canon}
use Rattle.sval_relay.specs.declared.way.Way.{Way}
use Rattle.sval_relay.specs.declared.way.Way.TheVariants.{Direct, Buffered, Calls, DirectBeside, BufferedBeside}
use Rattle.sval_relay.specs.declared.way.Task.{Task}

-- the first bad line, or the first call that no value goes on with, each counted from 1; calls that are no whole value; what
-- can't be a map's key, or a number that is none, each with what is written up to it; or the text
pub data RelayVerdict : Type 0 where
  BadLine : ℕ → RelayVerdict
  BadCall : ℕ → RelayVerdict
  Unfinished : RelayVerdict
  Key : List ℕ → RelayVerdict
  Number : List ℕ → RelayVerdict
  Text : List ℕ → RelayVerdict

-- what is asked for of each tree: its JSON in a style of variants, or its canonical script
pub data TreeFormat : Type 0 where
  JsonIn : Variants → TreeFormat
  Script : TreeFormat

-- ---- what trees give

-- the text that is asked for of a tree, or why it has none: a script there always is
abbrev pub tree_text : TreeFormat → Tree → Result (List ℕ) Refusal
tree_text (JsonIn style) tree = map_ok compact (json_in style tree)
tree_text Script tree = Ok (canon tree)

-- what ends each tree's text: a line feed where many values may come, and nothing after a script
abbrev pub ending : TreeFormat → Bool → List ℕ
ending (JsonIn style) true = 10 ∷ []
ending (JsonIn style) false = []
ending Script many = []

-- the trees' texts, each with its ending, or the refusal of the first tree that is refused
abbrev pub texts : TreeFormat → List ℕ → List Tree → Result (List ℕ) Refusal
texts asked end [] = Ok []
texts asked end (tree ∷ trees) = on_ok (tree_text asked tree) (λ text. map_ok (λ more. text ++ (end ++ more)) (texts asked end trees))

-- what the writer's steps write for a tree, up to the first refusal, which is the same for all calls that spell it
abbrev pub tree_written : TreeFormat → Tree → List ℕ
tree_written (JsonIn style) tree = (written_in style (calls_of tree)).written
tree_written Script tree = []

-- what is due of a tree by itself: its text, or what is written of it up to the refusal
abbrev pub due_of : Result (List ℕ) Refusal → List ℕ → List ℕ
due_of (Ok text) written = text
due_of (Err why) written = written

abbrev pub tree_due : TreeFormat → Tree → List ℕ
tree_due asked tree = due_of (tree_text asked tree) (tree_written asked tree)

-- a tree's text with its ending, and what the trees after it leave; or what was written of the tree, where it is refused
abbrev pub with_text : Result (List ℕ) Refusal → List ℕ → List ℕ → List ℕ → List ℕ
with_text (Ok text) end later written = text ++ (end ++ later)
with_text (Err why) end later written = written

-- what writing the trees leaves, up to the first one that is refused
abbrev pub left : TreeFormat → List ℕ → List Tree → List ℕ
left asked end [] = []
left asked end (tree ∷ trees) = with_text (tree_text asked tree) end (left asked end trees) (tree_written asked tree)

-- the text of all trees, or the refusal of the first one that is refused, with what is left then
abbrev pub text_verdict : Result (List ℕ) Refusal → List ℕ → RelayVerdict
text_verdict (Ok text) left = Text text
text_verdict (Err InvalidKey) left = Key left
text_verdict (Err InvalidNumber) left = Number left

-- what these trees give
abbrev pub trees_verdict : TreeFormat → Bool → List Tree → RelayVerdict
trees_verdict asked many trees = text_verdict (texts asked (ending asked many) trees) (left asked (ending asked many) trees)

-- ---- what a script gives, where it has to spell one value, and where it may spell many

-- some further calls complete these: to one value, or to a list of values
abbrev pub CanGoOn : Bool → List Call → Type 0
CanGoOn false calls = IsViable calls
CanGoOn true calls = IsViableAll calls

-- the calls spell these trees: one, or a list
abbrev pub SpellTrees : Bool → List Call → List Tree → Type 0
SpellTrees false calls trees = (tree : Tree) × (trees ≡ tree ∷ []) × Spells calls tree
SpellTrees true calls trees = SpellsAll calls trees

-- the first call that no value, or no list of values, goes on with, counted from 1; calls that are not whole; or what the trees give
pub data IsOfRelayCalls : List Call → TreeFormat → Bool → RelayVerdict → Type 0 where
  bad_call : {calls : List Call} {asked : TreeFormat} {many : Bool} (front : List Call) (call : Call) (rest : List Call) → calls ≡ front ++ (call ∷ rest)
      → CanGoOn many front → (CanGoOn many (front ++ (call ∷ [])) → ⊥) → IsOfRelayCalls calls asked many (BadCall (length front + 1))
  unfinished : {calls : List Call} {asked : TreeFormat} {many : Bool} → CanGoOn many calls → ((trees : List Tree) → SpellTrees many calls trees → ⊥)
      → IsOfRelayCalls calls asked many Unfinished
  whole : {calls : List Call} {asked : TreeFormat} {many : Bool} (trees : List Tree) → SpellTrees many calls trees → IsOfRelayCalls calls asked many (trees_verdict asked many trees)

-- the bad line; or, where there is none, what the calls give
abbrev pub IsOfLines : Lines → TreeFormat → Bool → RelayVerdict → Type 0
IsOfLines (Bad n) asked many answer = answer ≡ BadLine n
IsOfLines (Good calls) asked many answer = IsOfRelayCalls calls asked many answer

-- this answer is the script's verdict, where this is asked for
abbrev pub IsVerdictOn : RelayVerdict → List ℕ → TreeFormat → Bool → Type 0
IsVerdictOn answer script asked many = IsOfLines (lines script) asked many answer

-- ---- what is asked for of a script

-- what a way makes of each tree: JSON in its style, or its canonical script
abbrev pub asked_in : Way → TreeFormat
asked_in Direct = JsonIn Inside
asked_in Buffered = JsonIn Inside
asked_in Calls = Script
asked_in DirectBeside = JsonIn Beside
asked_in BufferedBeside = JsonIn Beside

-- a way for a script that has to spell one value, and for one that may spell many
abbrev pub one_in : Way → Task
one_in way = record { way = way; many = false }

abbrev pub all_in : Way → Task
all_in way = record { way = way; many = true }

-- this answer is the script's verdict, where this is asked for
abbrev pub IsRelayVerdict : RelayVerdict → List ℕ → Task → Type 0
IsRelayVerdict answer script task = IsVerdictOn answer script (asked_in task.way) task.many

-- a fact on the script's verdict
abbrev pub OnVerdict : (RelayVerdict → Type 0) → List ℕ → Task → Type 0
OnVerdict P script task = (answer : RelayVerdict) → IsRelayVerdict answer script task → P answer
