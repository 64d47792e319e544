-- The laws of the machine as a function, as facts.
use Rattle.std.specs.Prelude.{◌≡◌, ◌+◌, List, [], ◌∷◌, ◌++◌, length, Some}
use Rattle.std.specs.Bool.{Decides}
use Rattle.sval_label.specs.Calls.{Call}
use Rattle.sval_core.specs.Trees.{Tree}
use Rattle.sval_core.specs.Spells.{Spells, IsViable, plain}
use Rattle.sval_core.specs.Many.{IsViableAll}
use Rattle.sval_core.specs.Checker.{State, Runs, kept}
use Rattle.sval_core.specs.ManyChecker.{Progress, kept_all}
use Rattle.sval_core.specs.CheckerSteps.{next, is_whole_tree, next_of_list}

-- the machine goes from one state to the other by a call; a hint leaves it where it stands
abbrev pub Goes : State → Call → State → Type 0
Goes old call new = Runs old.filled old.frames (plain (call ∷ [])) new.filled new.frames

-- the function gives a state exactly where the machine goes there
abbrev pub NextIsTheMachine : Type 0
NextIsTheMachine = (old new : State) (call : Call) → (next old call ≡ Some new → Goes old call new) × (Goes old call new → next old call ≡ Some new)

-- viable calls stay viable with a call exactly where the function takes it in the state that they keep, and then keep what it gives
abbrev pub NextDecides : Type 0
NextDecides =
    (calls : List Call) (call : Call) (state : State) → kept calls state
    → (IsViable (calls ++ (call ∷ [])) → (after : State) × (next state call ≡ Some after))
    × ((after : State) → next state call ≡ Some after → IsViable (calls ++ (call ∷ [])) × kept (calls ++ (call ∷ [])) after)

-- viable calls spell a tree exactly where the state that they keep is whole
abbrev pub WholeIsASpelling : Type 0
WholeIsASpelling = (calls : List Call) (state : State) → kept calls state → Decides (is_whole_tree state) ((tree : Tree) × Spells calls tree)

-- the same of lists of trees: the function takes a call exactly where the calls can go on with it, and gives where the machine then stands
abbrev pub NextOfListDecides : Type 0
NextOfListDecides =
    (calls : List Call) (call : Call) (now : Progress) → kept_all calls now
    → (IsViableAll (calls ++ (call ∷ [])) → (after : Progress) × (next_of_list (length calls + 1) now call ≡ Some after))
    × ((after : Progress) → next_of_list (length calls + 1) now call ≡ Some after
    → IsViableAll (calls ++ (call ∷ [])) × kept_all (calls ++ (call ∷ [])) after)
