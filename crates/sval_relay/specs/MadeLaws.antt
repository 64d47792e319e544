-- The laws of made scripts: the trees that they spell, and their JSON.
use Rattle.std.specs.Prelude.{◌≡◌, ℕ, ◌<◌, ◌^◌, pos, List, [], ◌∷◌, ◌++◌, codes, decimal, None, Ok}
use Rattle.std.specs.List.{range_with_len}
use Rattle.sval_label.specs.Calls.{Field, U64, Record}
use Rattle.sval_core.specs.Names.{no_name}
use Rattle.sval_core.specs.Spells.{Spells}
use Rattle.sval_core.specs.Trees as tree
use Rattle.sval_core.specs.Trees.{Tree, part, none}
use Rattle.sval_core.specs.ValueTrees.{seq_tree}
use Rattle.sval_json.specs.Json as json
use Rattle.sval_json.specs.Json.{Json, compact, raw_key, object, pair, no_pair, array, Items, item, no_item}
use Rattle.sval_json.specs.Shape.{json_in}
use Rattle.sval_json.specs.declared.style.Variants.TheVariants.{Inside}
use Rattle.sval_script.specs.Lines.{Good, lines}
use Rattle.sval_relay.specs.declared.way.Way.TheVariants.{Buffered}
use Rattle.sval_relay.specs.Made.{made_field_label, made_calls, made_script, IsMadeLine}
use Rattle.sval_relay.specs.Verdict.{Text, one_in, IsRelayVerdict}

-- ---- the tree and its JSON

abbrev pub record_tree : ℕ → Tree
record_tree i =
    tree.Container (Record no_name)
    (part (Field None (made_field_label (codes "id"))) (tree.Int U64 (pos i))
    (part (Field None (made_field_label (codes "name"))) (tree.Text (codes "n" ++ decimal i)) none))

abbrev pub made_tree : ℕ → Tree
made_tree count = seq_tree record_tree (range_with_len 0 count)

-- `{"id":7,"name":"n7"}`
abbrev pub record_json : ℕ → Json
record_json i = object (pair (raw_key (codes "id")) (json.number (decimal i)) (pair (raw_key (codes "name")) (json.text (codes "n" ++ decimal i)) no_pair))

abbrev pub record_items : List ℕ → Items
record_items [] = no_item
record_items (i ∷ is) = item (record_json i) (record_items is)

abbrev pub made_json : ℕ → Json
made_json count = array (record_items (range_with_len 0 count))

-- ---- the laws

-- the lines of a made script spell its calls
abbrev pub MadeLinesReadBack : Type 0
MadeLinesReadBack = (count : ℕ) → count < 2 ^ 64 → lines (made_script count) ≡ Good (made_calls count)

-- these spell the tree
abbrev pub MadeCallsSpell : Type 0
MadeCallsSpell = (count : ℕ) → Spells (made_calls count) (made_tree count)

-- which has this JSON
abbrev pub MadeTreesHaveJson : Type 0
MadeTreesHaveJson = (count : ℕ) → json_in Inside (made_tree count) ≡ Ok (made_json count)

-- so the verdict of a made script is the text of that
abbrev pub MadeScriptsAreText : Type 0
MadeScriptsAreText = (count : ℕ) → count < 2 ^ 64 → IsRelayVerdict (Text (compact (made_json count))) (made_script count) (one_in Buffered)

-- and one line is due, and no second one
abbrev pub OneMadeLine : Type 0
OneMadeLine = (count : ℕ) → count < 2 ^ 64 → (line : List ℕ) × IsMadeLine count line × ((other : List ℕ) → IsMadeLine count other → line ≡ other)
