-- What the program keeps of paths and of how calls are treated is.
use Rattle.std.specs.Prelude.{ℕ, Bool, true, false, List, [], reverse, map, Option}
use Rattle.sval_filter.specs.Paths.{Path, Rule, Fate, LeftOut, Stays, Within}
use Rattle.sval_filter.specs.SeenPaths.{paths_in, rests_in}
use Rattle.sval_filter.specs.Layers as layers
use Rattle.sval_filter.specs.declared.tails.Tails.{Tails}
use Rattle.sval_filter.specs.declared.tails.Tails.TheVariants as tails
use Rattle.sval_filter.specs.declared.layer.Fate as made_fate
use Rattle.sval_filter.specs.declared.layer.Fate.TheVariants as fate
use Rattle.sval_filter.specs.declared.layer.Mode as made_mode
use Rattle.sval_filter.specs.declared.layer.Mode.TheVariants as mode
use Rattle.sval_filter.specs.declared.layer.Layer as made_layer

-- the rests of paths
abbrev pub seen_tails : Tails → List Path
seen_tails (tails.Whole paths) = paths_in paths.now
seen_tails (tails.Rests rests) = rests_in rests.value.items
seen_tails tails.Nothing = []

-- what becomes of a part
abbrev pub seen_fate : made_fate.Fate → Fate
seen_fate fate.LeftOut = LeftOut
seen_fate fate.Stays = Stays
seen_fate (fate.Within rests) = Within (seen_tails rests)

-- how calls are treated
abbrev pub seen_mode : made_mode.Mode → layers.Mode
seen_mode mode.Holding = layers.Holding
seen_mode (mode.By fate) = layers.By (seen_fate fate)

-- what has begun
abbrev pub seen_layer : made_layer.Layer → layers.Layer
seen_layer layer = record { mode = seen_mode layer.mode; entry = seen_fate layer.entry }

-- all that has begun, the innermost first
abbrev pub innermost_first : List made_layer.Layer → List layers.Layer
innermost_first layers = reverse (map seen_layer layers)

-- ---- what is asked of them

-- a part of this fate is left out
abbrev pub is_left_out : Fate → Bool
is_left_out LeftOut = true
is_left_out fate = false

-- calls that are treated so are held
abbrev pub is_holding : layers.Mode → Bool
is_holding layers.Holding = true
is_holding (layers.By fate) = false

-- calls that are treated so are passed on
abbrev pub passes : layers.Mode → Bool
passes layers.Holding = false
passes (layers.By LeftOut) = false
passes (layers.By fate) = true

-- what becomes of the entry of a key with this label, where the map's calls are treated so; inside a key nothing is left out
abbrev pub entry_by : Rule → layers.Mode → Option (List ℕ) → Fate
entry_by rule (layers.By fate) label = layers.fate_in rule fate label
entry_by rule layers.Holding label = Stays

-- how calls are treated in what has begun, the innermost first, where all is pruned with these paths
pub record Layered : Type 0 where
  pub paths : List Path
  pub layers : List layers.Layer
