-- What a script has to give where its calls have to spell one value.
use Rattle.std.specs.Prelude.{◌≡◌, ℕ, List}
use Rattle.sval_label.specs.Calls.{Call}
use Rattle.sval_core.specs.Spells.{Spells, IsViable}
use Rattle.sval_core.specs.Trees.{Tree}
use Rattle.sval_check.specs.Checks.{IsFirstBadCall}
use Rattle.sval_script.specs.Lines.{Good, Bad, lines}

-- the first bad line, or the first call that no value goes on with, each counted from 1; calls that are no whole value; or what the value
-- gives
pub data Verdict (A : Type 0) : Type 0 where
  BadLine : ℕ → Verdict A
  BadCall : ℕ → Verdict A
  Unfinished : Verdict A
  Whole : A → Verdict A

-- the calls can be completed to a value, and are none
pub record AreUnfinished (calls : List Call) : Type 0 where
  pub viable : IsViable calls
  pub no_tree : (tree : Tree) → Spells calls tree → ⊥

-- the calls spell a tree, and this is what it gives
pub record SpellWhole {A : Type 0} (Gives : A → Tree → Type 0) (due : A) (calls : List Call) : Type 0 where
  pub tree : Tree
  pub spells : Spells calls tree
  pub is : Gives due tree

-- what calls give, where the relation says what a tree gives
abbrev pub IsOfCalls : {A : Type 0} → (A → Tree → Type 0) → Verdict A → List Call → Type 0
IsOfCalls Gives (BadLine n) calls = ⊥
IsOfCalls Gives (BadCall n) calls = IsFirstBadCall calls n
IsOfCalls Gives Unfinished calls = AreUnfinished calls
IsOfCalls Gives (Whole due) calls = SpellWhole Gives due calls

-- the script's lines are calls, which give this
pub record OfCalls {A : Type 0} (Gives : A → Tree → Type 0) (answer : Verdict A) (script : List ℕ) : Type 0 where
  pub calls : List Call
  pub good : lines script ≡ Good calls
  pub is : IsOfCalls Gives answer calls

-- this is the script's verdict
abbrev pub IsVerdict : {A : Type 0} → (A → Tree → Type 0) → Verdict A → List ℕ → Type 0
IsVerdict Gives (BadLine n) script = lines script ≡ Bad n
IsVerdict Gives answer script = OfCalls Gives answer script

-- each tree gives one thing
pub record GiveOne {A : Type 0} (Gives : A → Tree → Type 0) : Type 0 where
  pub some : (tree : Tree) → (due : A) × Gives due tree
  pub one : (tree : Tree) (due other : A) → Gives due tree → Gives other tree → due ≡ other
