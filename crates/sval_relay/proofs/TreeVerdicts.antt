-- The verdict on a script whose calls spell a tree.
use Rattle.std.specs.Prelude.{◌≡◌, ◌↔◌, ℕ, false, List, Result, Ok, Err, refl}
use Rattle.std.proofs.Common.{sym, subst}
use Rattle.sval_label.specs.Calls.{Call}
use Rattle.sval_core.specs.Trees.{Tree}
use Rattle.sval_core.specs.Spells.{Spells}
use Rattle.sval_json.specs.declared.style.Variants.{Variants}
use Rattle.sval_json.specs.Json.{Json, compact}
use Rattle.sval_json.specs.Number.{Refusal, InvalidKey, InvalidNumber}
use Rattle.sval_json.specs.Shape.{json_in}
use Rattle.sval_json.specs.Steps.{written_in}
use Rattle.sval_script.specs.Lines.{Lines, Good, Bad, lines}
use Rattle.sval_relay.specs.Verdict.{RelayVerdict, Text, TreeFormat, JsonIn, IsOfRelayCalls, bad_call, unfinished, whole, IsOfLines, IsVerdictOn}
use Rattle.sval_relay.specs.Laws.{json_verdict, ScriptSpellsJson}
use Rattle.sval_relay.proofs.Verdicts.{one_of_lines, verdict_in}
use Rattle.sval_relay.proofs.Writing.{written_of_calls}

pub tree_gives_json : (script : List ℕ) (style : Variants) (calls : List Call) (tree : Tree) (answer : RelayVerdict) → lines script ≡ Good calls → Spells calls tree
    → IsVerdictOn answer script (JsonIn style) false ↔ (answer ≡ json_verdict (json_in style tree) (written_in style calls).written)
tree_gives_json script style calls tree answer good spells =
    let due = json_verdict (json_in style tree) (written_in style calls).written in
    let found : IsVerdictOn due script (JsonIn style) false =
    subst (λ bytes. IsVerdictOn (json_verdict (json_in style tree) bytes) script (JsonIn style) false) (sym (written_of_calls style calls tree spells)) (verdict_in script style calls tree good spells) in (
      λ v. one_of_lines (lines script) (JsonIn style) false answer due v found,
      λ same. subst (λ other. IsVerdictOn other script (JsonIn style) false) (sym same) found,
    )

-- ---- a text comes only so

spelled : {calls : List Call} {asked : TreeFormat} {answer : RelayVerdict} (text : List ℕ) → IsOfRelayCalls calls asked false answer → answer ≡ Text text → (tree : Tree) × Spells calls tree
spelled text (bad_call front call rest e v n) same = cc same
spelled text (unfinished v none) same = cc same
spelled text (whole trees s) same = (s.0, s.2)

read_good : (read : Lines) (asked : TreeFormat) (text : List ℕ) → IsOfLines read asked false (Text text) → (calls : List Call) × (read ≡ Good calls) × IsOfRelayCalls calls asked false (Text text)
read_good (Bad n) asked text v = cc v
read_good (Good calls) asked text v = (calls, refl, v)

has_json : (found : Result Json Refusal) (written text : List ℕ) → Text text ≡ json_verdict found written → (json : Json) × (found ≡ Ok json) × (text ≡ compact json)
has_json (Ok json) written text same = (json, refl, cc same)
has_json (Err InvalidKey) written text same = cc same
has_json (Err InvalidNumber) written text same = cc same

pub only_json_gives_text : (script text : List ℕ) (style : Variants) → IsVerdictOn (Text text) script (JsonIn style) false → (json : Json) × ScriptSpellsJson script style json × (text ≡ compact json)
only_json_gives_text script text style v =
    let read = read_good (lines script) (JsonIn style) text v in
    let tree = spelled text read.2 refl in
    let given = (tree_gives_json script style read.0 tree.0 (Text text) read.1 tree.1).0 v in
    let has = has_json (json_in style tree.0) (written_in style read.0).written text given in
    (has.0, record { calls = read.0; tree = tree.0; good = read.1; spells = tree.1; shape = has.1 }, has.2)
