-- What was written of a value that tells a tree: its JSON.
use Rattle.std.specs.Prelude.{◌≡◌, ℕ, List, [], Ok, Err, Some}
use Rattle.std.proofs.Common.{ap, sym, ◌∙◌}
use Rattle.sval_label.specs.Calls.{Call}
use Rattle.sval_core.specs.Spells.{Spells}
use Rattle.sval_core.specs.Trees.{Tree}
use Rattle.sval_io.specs.Sinks.{Told}
use Rattle.sval_json.specs.Json.{Json, compact}
use Rattle.sval_json.specs.Number.{Refusal}
use Rattle.sval_json.specs.Shape.{json_in}
use Rattle.sval_json.specs.Written.{WritesTreeIn, RefusesSpelledTree}
use Rattle.sval_json.specs.declared.style.Variants.{Variants}

-- in a sink that was empty, and tells its text
pub told_json : {style : Variants} {tree : Tree} {json : Json} {old new : Told} {bytes : List ℕ} → json_in style tree ≡ Ok json → WritesTreeIn style tree old new
    → old.text ≡ Some [] → new.text ≡ Some bytes → bytes ≡ compact json
told_json {json = json} {bytes = bytes} shape wrote empty told =
    let same : Ok wrote.json ≡ Ok json = sym wrote.shape ∙ shape in
    let is : wrote.json ≡ json = cc same in
    let text : Some bytes ≡ Some (compact wrote.json) = sym told ∙ (rw empty at wrote.appends.text) in
    let written : bytes ≡ compact wrote.json = cc text in
    written ∙ ap compact is

-- a tree that has a JSON is not refused
pub never_refused : {style : Variants} (calls : List Call) (tree : Tree) {json : Json} {why : Refusal} → json_in style tree ≡ Ok json → Spells calls tree → RefusesSpelledTree style why calls → ⊥
never_refused calls tree {json} {why} shape spells refused = let apart : Ok json ≡ Err why = sym shape ∙ refused tree spells in cc apart
