-- Which calls spell trees one after another, which calls can still be completed to such a list, and where each tree ends.
use Rattle.std.specs.Prelude.{◌≡◌, ℕ, ◌+◌, ◌-◌, List, [], ◌∷◌, ◌++◌, length, take, drop, None, ⊤}
use Rattle.sval_label.specs.Calls.{Call}
use Rattle.sval_core.specs.Trees.{Tree}
use Rattle.sval_core.specs.Spells.{Spells, plain, plain_call}

-- the calls are a list for each tree, joined in order, and each list spells its tree; hints alone spell no tree
abbrev pub SpellsAll : List Call → List Tree → Type 0
SpellsAll calls [] = plain calls ≡ []
SpellsAll calls (tree ∷ trees) =
    (first : List Call) × (rest : List Call) × (calls ≡ first ++ rest) × Spells first tree × SpellsAll rest trees

-- some further calls complete these to a spelling of a list of trees
abbrev pub IsViableAll : List Call → Type 0
IsViableAll calls = (more : List Call) × (trees : List Tree) × SpellsAll (calls ++ more) trees

-- the call is no hint at a tag
abbrev pub IsNoHint : Call → Type 0
IsNoHint call = plain_call call ≡ None → ⊥

-- The calls spell the trees, and the numbers are those of each tree's last call that is no hint, where `past` calls came before. A hint
-- between two trees stands before the second one.
abbrev pub EndAfter : ℕ → List Call → List Tree → List ℕ → Type 0
EndAfter past calls [] ends = (plain calls ≡ []) × (ends ≡ [])
EndAfter past calls (tree ∷ trees) ends =
    (front : List Call) × (last : Call) × (rest : List Call) × (others : List ℕ) × (calls ≡ front ++ (last ∷ rest)) × IsNoHint last
    × Spells (front ++ (last ∷ [])) tree × (ends ≡ (past + length front + 1) ∷ others) × EndAfter (past + length front + 1) rest trees others

-- the number of calls up to the last call of each tree
abbrev pub AreEnds : List Call → List Tree → List ℕ → Type 0
AreEnds calls trees ends = EndAfter 0 calls trees ends

-- the calls after the first `from` calls, up to the call with the number `to`
abbrev pub slice : ℕ → ℕ → List Call → List Call
slice from to calls = take (to - from) (drop from calls)

-- each tree is spelled by the calls after the end before it, up to its own end
abbrev pub SlicesSpell : ℕ → List ℕ → List Call → List Tree → Type 0
SlicesSpell from [] calls [] = ⊤
SlicesSpell from (to ∷ ends) calls (tree ∷ trees) = Spells (slice from to calls) tree × SlicesSpell to ends calls trees
SlicesSpell from ends calls trees = ⊥
