-- A walk over a value, part by part, which knows what a rule and paths leave of each.
use Rattle.std.specs.Prelude.{ℕ, Bool, not, List, [], ◌∷◌, reverse, map, Some}
use Rattle.sval_filter.specs.Paths.{Path, Rule, Fate, Within}
use Rattle.sval_filter.specs.Layers.{fate_in}
use Rattle.sval_filter.specs.SeenLayers.{seen_fate, is_left_out}
use Rattle.sval_filter.specs.declared.walk.Reach as made

-- what becomes of what is open, and of the value that comes next in it
pub record Reach : Type 0 where
  pub fate : Fate
  pub entry : Fate

-- where a walk is: what is open innermost, or nothing yet, and what is around that, the innermost first
pub record Walking : Type 0 where
  pub rule : Rule
  pub innermost : Reach
  pub around : List Reach

-- what is open, and each value in it until a name comes, is treated so
abbrev pub reach_by : Fate → Reach
reach_by fate = record { fate = fate; entry = fate }

-- before any value
abbrev pub walk_start : Rule → List Path → Walking
walk_start rule paths = record { rule = rule; innermost = reach_by (Within paths); around = [] }

-- behind a name, which says what becomes of the value that comes next
abbrev pub walk_named : List ℕ → Walking → Walking
walk_named label walk = record walk { innermost = record walk.innermost { entry = fate_in walk.rule walk.innermost.fate (Some label) } }

-- behind a begin
abbrev pub walk_begun : Walking → Walking
walk_begun walk = record walk { innermost = reach_by walk.innermost.entry; around = walk.innermost ∷ walk.around }

-- without what is open innermost, if something is around it
abbrev pub walk_closed : Rule → Reach → List Reach → Walking
walk_closed rule innermost [] = record { rule = rule; innermost = innermost; around = [] }
walk_closed rule innermost (outer ∷ around) = record { rule = rule; innermost = outer; around = around }

-- behind an end
abbrev pub walk_ended : Walking → Walking
walk_ended walk = walk_closed walk.rule walk.innermost walk.around

-- what has this fate isn't left out
abbrev pub stays_by : Fate → Bool
stays_by fate = not (is_left_out fate)

-- ---- in the program

abbrev pub seen_reach : made.Reach → Reach
seen_reach reach = record { fate = seen_fate reach.fate; entry = seen_fate reach.entry }

abbrev pub reaches_in : List made.Reach → List Reach
reaches_in reaches = reverse (map seen_reach reaches)
