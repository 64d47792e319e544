-- The laws of pruning and of the filter, as facts.
use Rattle.std.specs.Prelude.{◌≡◌, ◌<◌, ◌^◌, List, []}
use Rattle.sval_label.specs.Calls.{Call}
use Rattle.sval_core.specs.Trees.{Tree, IsGood}
use Rattle.sval_core.specs.Spells.{Spells}
use Rattle.sval_core.specs.Real.{IsReal}
use Rattle.sval_core.specs.Law.{Law, Standing, Ran, Refuses, Streams}
use Rattle.sval_core.specs.Values.{makes}
use Rattle.sval_filter.specs.Paths.{Path, Rule, Drop}
use Rattle.sval_filter.specs.Pruned.{pruned}
use Rattle.sval_filter.specs.Filtering.{fresh, all_due}
use Rattle.sval_filter.specs.FilterLaw.{FilterView, new_filter, filter_standing, AcceptsAll, IsFilterLeft, filter_law, Took}
use Rattle.sval_check.specs.Checked.{StandsFor}

-- what is left of a good tree is good
abbrev pub PrunedIsGood : Type 0
PrunedIsGood = (rule : Rule) (paths : List Path) (tree : Tree) → IsGood tree → IsGood (pruned rule paths tree)

-- what is left of a real tree is real
abbrev pub PrunedIsReal : Type 0
PrunedIsReal = (rule : Rule) (paths : List Path) (tree : Tree) → IsReal tree → IsReal (pruned rule paths tree)

-- the calls that a new filter passes on of calls that spell a tree spell what is left of it
abbrev pub DueCallsSpellPruned : Type 0
DueCallsSpellPruned =
    (rule : Rule) (paths : List Path) (calls : List Call) (tree : Tree) → Spells calls tree
    → Spells (all_due rule paths fresh calls) (pruned rule paths tree)

-- dropping by no path leaves a tree as it is
abbrev pub NothingDropped : Type 0
NothingDropped = (tree : Tree) → pruned Drop [] tree ≡ tree

-- where a new filter has taken calls that spell a tree, and isn't stopped, the stream in it has taken calls that spell what is left
abbrev pub InnerTakesPruned : {V : Type 0} → Law V → Type 0
InnerTakesPruned {V} law =
    (rule : Rule) (paths : List Path) (calls : List Call) (tree : Tree) (inner : Standing V) (last : FilterView V)
    → Spells calls tree → Took law rule paths (new_filter inner) calls last
    → (taken : List Call) × Streams law inner (makes taken) last.inner × Spells taken (pruned rule paths tree)

-- a new filter takes calls that spell a tree, where the stream in it takes the calls that are due
abbrev pub TakesTrees : {V : Type 0} → Law V → Type 0
TakesTrees {V} law =
    (rule : Rule) (paths : List Path) (calls : List Call) (tree : Tree) (inner : Standing V)
    → Spells calls tree → AcceptsAll law inner.view (all_due rule paths fresh calls)
    → (last : FilterView V) × Ran (filter_law law rule paths) (new_filter inner) calls last

-- whatever a refused call leaves, it was refused with a cause, and no count fell
abbrev pub RefusesWithCause : {V : Type 0} → Law V → Type 0
RefusesWithCause {V} law =
    (rule : Rule) (paths : List Path) (call : Call) (view left : FilterView V) → view.wants < 2 ^ 64
    → IsFilterLeft law rule paths view call left
    → Refuses (filter_law law rule paths) (filter_standing view) call (filter_standing left)

-- whatever calls a new filter took, they can be completed, and its state is the one that they keep
abbrev pub StandsForTaken : {V : Type 0} → Law V → Type 0
StandsForTaken {V} law =
    (rule : Rule) (paths : List Path) (calls : List Call) (inner : Standing V) (last : FilterView V)
    → Took law rule paths (new_filter inner) calls last → StandsFor last.state calls
