-- What a script has to give, by what is asked for.
use Rattle.std.specs.Prelude.{◌≡◌, ℕ, List, Option, Some, None, Ok, Err}
use Rattle.sval_core.specs.Trees.{Tree, calls_of}
use Rattle.sval_json.specs.Json.{Json, compact}
use Rattle.sval_json.specs.Number.{Refusal}
use Rattle.sval_json.specs.Shape.{json_of}
use Rattle.sval_json.specs.Steps.{written_in}
use Rattle.sval_json.specs.declared.style.Variants.TheVariants.{Inside}
use Rattle.sval_program.specs.Verdict.{Verdict, IsVerdict}
use Rattle.sval_filter.specs.Forms.{FilterForm}
use Rattle.sval_filter.specs.Pruned.{pruned}

-- the text is that of the tree's JSON
pub record IsJson (text : List ℕ) (tree : Tree) : Type 0 where
  pub json : Json
  pub shape : json_of tree ≡ Ok json
  pub is_text : text ≡ compact json

-- the tree has no JSON, for this cause, and this is what the steps that write JSON write of its calls before they refuse one
pub record IsCutAt (why : Refusal) (bytes : List ℕ) (tree : Tree) : Type 0 where
  pub shape : json_of tree ≡ Err why
  pub is_written : bytes ≡ (written_in Inside (calls_of tree)).written

-- what is written of a tree: its JSON, or what stands before its refusal
abbrev pub IsWritten : Option Refusal → List ℕ → Tree → Type 0
IsWritten None bytes tree = IsJson bytes tree
IsWritten (Some why) bytes tree = IsCutAt why bytes tree

-- what is written of a tree, and the refusal of the tree, if it is refused
abbrev pub FilterAnswer : Type 0
FilterAnswer = Option Refusal × List ℕ

-- a tree gives what is written of what the rule and the paths leave of it
abbrev pub GivesLeft : FilterForm → FilterAnswer → Tree → Type 0
GivesLeft asked answer tree = IsWritten answer.0 answer.1 (pruned asked.0 asked.1 tree)

-- this is the script's verdict, by what is asked for
abbrev pub IsFilterVerdict : Verdict FilterAnswer → List ℕ → FilterForm → Type 0
IsFilterVerdict answer script asked = IsVerdict (GivesLeft asked) answer script
