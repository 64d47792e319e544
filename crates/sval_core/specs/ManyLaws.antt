-- The laws of lists of trees, as facts.
use Rattle.std.specs.Prelude.{◌≡◌, ℕ, List, [], ◌∷◌, ◌++◌}
use Rattle.sval_label.specs.Calls.{Call}
use Rattle.sval_core.specs.Trees.{Tree}
use Rattle.sval_core.specs.Spells.{Spells}
use Rattle.sval_core.specs.Many.{SpellsAll, IsViableAll, AreEnds, SlicesSpell}
use Rattle.sval_core.specs.ManyChecker.{Progress, kept_all}

-- calls that spell a list of trees spell no other list
abbrev pub SpellsOneList : Type 0
SpellsOneList = (calls : List Call) (trees others : List Tree) → SpellsAll calls trees → SpellsAll calls others → trees ≡ others

-- a list of calls spells a tree exactly if it spells the list of this one tree
abbrev pub OneTreeIsAList : Type 0
OneTreeIsAList = (calls : List Call) (tree : Tree) → (Spells calls tree → SpellsAll calls (tree ∷ [])) × (SpellsAll calls (tree ∷ []) → Spells calls tree)

-- where calls can be completed to a list of trees, so can every front of them
abbrev pub ListFrontsAreViable : Type 0
ListFrontsAreViable = (front rest : List Call) → IsViableAll (front ++ rest) → IsViableAll front

-- calls that spell a list of trees can be completed to one
abbrev pub ListSpellingsAreViable : Type 0
ListSpellingsAreViable = (calls : List Call) (trees : List Tree) → SpellsAll calls trees → IsViableAll calls

-- the machine for lists takes exactly the calls that can be completed
abbrev pub TakesTheViableLists : Type 0
TakesTheViableLists =
    (calls : List Call) → (IsViableAll calls → (now : Progress) × kept_all calls now) × ((now : Progress) → kept_all calls now → IsViableAll calls)

-- where it takes calls, it stands in one state after them
abbrev pub OneProgress : Type 0
OneProgress = (calls : List Call) (now other : Progress) → kept_all calls now → kept_all calls other → now ≡ other

-- it ends with nothing begun exactly on spellings, and then knows where each tree ends
abbrev pub EndsOnLists : Type 0
EndsOnLists =
    (calls : List Call) (now : Progress) → kept_all calls now
    → (now.frames ≡ [] → (trees : List Tree) × SpellsAll calls trees × AreEnds calls trees now.ends)
    × ((trees : List Tree) → SpellsAll calls trees → now.frames ≡ [])

-- calls that spell trees have one list of ends
abbrev pub OneListOfEnds : Type 0
OneListOfEnds =
    (calls : List Call) (trees : List Tree) → SpellsAll calls trees
    → (ends : List ℕ) × AreEnds calls trees ends × ((other : List ℕ) → AreEnds calls trees other → ends ≡ other)

-- the calls between two ends spell the tree that ends there
abbrev pub EndsCutTrees : Type 0
EndsCutTrees = (calls : List Call) (trees : List Tree) (ends : List ℕ) → AreEnds calls trees ends → SlicesSpell 0 ends calls trees
