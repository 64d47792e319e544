-- What a log holds, and the lines that are written of it.
use Rattle.std.specs.Prelude.{◌≡◌, ℕ, List, [], ◌∷◌, ◌++◌, All, codes, flat_map, Ok}
use Rattle.circular_buffer.specs.Buffer.{keep_last}
use Rattle.sval_label.specs.Calls.{Call}
use Rattle.sval_core.specs.Law.{Emission}
use Rattle.sval_core.specs.Spells.{Spells}
use Rattle.sval_core.specs.Trees.{Tree}
use Rattle.sval_json.specs.Json.{Json, compact}
use Rattle.sval_json.specs.Shape.{json_of}
use Rattle.sval_json.specs.Steps.{written}
use Rattle.sval_buffer.specs.Forest.{replayed}
use Rattle.sval_buffer.specs.FlatForest.{FlatForest, forest_in}
use Rattle.sval_buffer.specs.CapturedValues.{IsTakenOwned}

-- the events as they were captured, the oldest first, and how many there may be
pub record Log : Type 0 where
  pub events : List FlatForest
  pub capacity : ℕ

abbrev pub empty_log : ℕ → Log
empty_log capacity = record { events = []; capacity = capacity }

-- the calls that a captured event makes again
abbrev pub event_calls : FlatForest → List Call
event_calls event = replayed (forest_in event)

-- ---- the lines

-- what the writer writes for a captured event, and a line feed
unfoldable pub event_line : FlatForest → List ℕ
event_line event = (written (event_calls event)).written ++ codes "\n"

-- the lines of all, one after another
abbrev pub lines_of : List FlatForest → List ℕ
lines_of events = flat_map event_line events

-- the calls spell a tree, and the line is the text of its JSON and a line feed
pub record IsLine (calls : List Call) (line : List ℕ) : Type 0 where
  pub tree : Tree
  pub spells : Spells calls tree
  pub json : Json
  pub shape : json_of tree ≡ Ok json
  pub text : line ≡ compact json ++ codes "\n"

-- what is written for each event is the line of the calls that it makes again
abbrev pub HasLine : FlatForest → Type 0
HasLine event = IsLine (event_calls event) (event_line event)

abbrev pub AreLines : List FlatForest → Type 0
AreLines events = All HasLine events

-- ---- an event more

-- The event stands captured behind those before, the first of which is gone where the log was full. It holds copies of all
-- texts, and its line is that of the calls that the event itself made.
pub record KeepsEvent (e : Emission) (old new : Log) : Type 0 where
  pub event : FlatForest
  pub captured : IsTakenOwned e (forest_in event)
  pub line : IsLine e.calls (event_line event)
  pub events : new.events ≡ keep_last old.capacity (old.events ++ event ∷ [])
  pub capacity : new.capacity ≡ old.capacity
