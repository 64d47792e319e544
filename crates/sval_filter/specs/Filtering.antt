-- The filter as a machine: what it keeps, which calls are due at a call, and what it keeps after it.
use Rattle.std.specs.Prelude.{ℕ, Bool, true, false, ◌||◌, List, [], ◌∷◌, ◌++◌, map, Option, Some, None, is_some}
use Rattle.sval_label.specs.Calls.{Call, Head, Slot}
use Rattle.sval_core.specs.Law.{computed}
use Rattle.sval_core.specs.Spells.{plain}
use Rattle.sval_core.specs.Stacks.{below}
use Rattle.sval_check.specs.Checks.{has_own_end}
use Rattle.sval_buffer.specs.Forest.{Forest, empty_forest, take, may_grow, replayed}
use Rattle.sval_buffer.specs.Capture.{forest_by}
use Rattle.sval_filter.specs.Paths.{Path, Rule, Fate, LeftOut, Stays}
pub use Rattle.sval_filter.specs.Layers.{Mode, Holding, By, Layer, layer, mode_in, entry_in, with_entry, fate_in, slot_fate, mode_of_part}

-- what a filter keeps beside the state of the machine that takes viable calls: a layer for each of its frames, and the held key
pub record Filtering : Type 0 where
  pub layers : List Layer
  pub held : Forest

-- what a new filter keeps
abbrev pub fresh : Filtering
fresh = record { layers = []; held = empty_forest }

-- ---- parts of a step

-- the fragments that these calls begin with, joined
abbrev pub fragments : List Call → List ℕ
fragments (Call.TextFragment borrowed bytes ∷ calls) = bytes ++ fragments calls
fragments calls = []

-- the text that a key's calls spell, if it is one
abbrev pub key_text_of : List Call → Option (List ℕ)
key_text_of (Call.TextBegin size ∷ calls) = Some (fragments calls)
key_text_of calls = None

-- the label of the entry whose key is held
abbrev pub held_label : Forest → Option (List ℕ)
held_label held = key_text_of (plain (replayed held))

-- the calls, where they are passed on
abbrev pub passed : Mode → List Call → List Call
passed Holding calls = []
passed (By LeftOut) calls = []
passed (By fate) calls = calls

-- a hint, which isn't passed on either between the key and the value of an entry that is left out
abbrev pub hint_due : Mode → Fate → Call → List Call
hint_due mode LeftOut hint = []
hint_due mode entry hint = passed mode (hint ∷ [])

-- the begin of a map, a record or a record tuple may announce too many entries, and goes without its size
abbrev pub without_size : Call → Call
without_size (Call.Begin Head.Map size) = Call.Begin Head.Map None
without_size (Call.Begin (Head.Record name) size) = Call.Begin (Head.Record name) None
without_size (Call.Begin (Head.RecordTuple name) size) = Call.Begin (Head.RecordTuple name) None
without_size call = call

-- the key that is held after a call
abbrev pub held_after : Mode → Forest → Call → Forest
held_after Holding held call = forest_by (take held (computed call)) held
held_after (By fate) held call = held

-- the held key may take memory for the call: for a fragment, and where it may grow
abbrev pub key_may_grow : Mode → Forest → Call → Bool
key_may_grow (By fate) held call = false
key_may_grow Holding held (Call.TextFragment borrowed bytes) = true
key_may_grow Holding held (Call.BinaryFragment borrowed bytes) = true
key_may_grow Holding held call = may_grow held (computed call)

-- the end of a key in no other key may take memory where the key is a text: for the copy of its label, and for what that says of paths
abbrev pub label_may_grow : Call → Mode → Mode → Forest → Bool
label_may_grow (Call.PartEnd slot) Holding (By fate) held = is_some (held_label held)
label_may_grow call inside around held = false

-- a call may take memory: it begins what has an end of its own, it ends a key that is a text, or the held key takes some
abbrev pub may_take_memory : List Path → Filtering → Call → Bool
may_take_memory paths kept call =
    has_own_end call
    || label_may_grow call (mode_in paths kept.layers) (mode_in paths (below kept.layers)) kept.held
    || key_may_grow (mode_in paths kept.layers) kept.held call

-- the layers after a call that is neither a part's begin nor its end
abbrev pub layers_after : Mode → List Layer → Call → List Layer
layers_after mode layers (Call.TextBegin size) = layer mode ∷ layers
layers_after mode layers (Call.BinaryBegin size) = layer mode ∷ layers
layers_after mode layers (Call.EnumBegin name) = layer mode ∷ layers
layers_after mode layers (Call.TaggedBegin name) = layer mode ∷ layers
layers_after mode layers (Call.Begin head size) = layer mode ∷ layers
layers_after mode layers Call.TextEnd = below layers
layers_after mode layers Call.BinaryEnd = below layers
layers_after mode layers (Call.EnumEnd name) = below layers
layers_after mode layers (Call.TaggedEnd name) = below layers
layers_after mode layers (Call.End head) = below layers
layers_after mode layers call = layers

-- ---- a part's end: that of a key inside no other key gives the key back

-- the key with its begin and end, where its entry isn't left out
abbrev pub key_due : Fate → Forest → Slot → List Call
key_due LeftOut held slot = []
key_due fate held slot = Call.PartBegin Slot.Key ∷ (map computed (replayed held) ++ (Call.PartEnd slot ∷ []))

-- what is due at a part's end, by how calls in the part and around it are treated
abbrev pub due_at_end : Rule → Mode → Mode → Forest → Slot → List Call
due_at_end rule Holding (By fate) held slot = key_due (fate_in rule fate (held_label held)) held slot
due_at_end rule mode around held slot = passed mode (Call.PartEnd slot ∷ [])

-- what is kept after it
abbrev pub kept_after_end : Rule → Mode → Mode → List Layer → Forest → Slot → Filtering
kept_after_end rule Holding (By fate) layers held slot =
    record { layers = with_entry (fate_in rule fate (held_label held)) layers; held = empty_forest }
kept_after_end rule mode around layers held slot =
    record { layers = with_entry Stays layers; held = held_after mode held (Call.PartEnd slot) }

-- ---- a step

-- what is kept after a call that is treated so
abbrev pub kept_after_in : Rule → List Path → Mode → List Layer → Forest → Call → Filtering
kept_after_in rule paths mode layers held (Call.PartBegin slot) =
    record { layers = layer (mode_of_part rule mode (entry_in layers) slot) ∷ layers; held = held_after mode held (Call.PartBegin slot) }
kept_after_in rule paths mode layers held (Call.PartEnd slot) =
    kept_after_end rule mode (mode_in paths (below layers)) (below layers) held slot
kept_after_in rule paths mode layers held call =
    record { layers = layers_after mode layers call; held = held_after mode held call }

-- what the filter keeps after a call
abbrev pub kept_after : Rule → List Path → Filtering → Call → Filtering
kept_after rule paths kept call = kept_after_in rule paths (mode_in paths kept.layers) kept.layers kept.held call

-- the calls that are due at a call that is treated so
abbrev pub due_in : Rule → List Path → Mode → List Layer → Forest → Call → List Call
due_in rule paths mode layers held (Call.PartBegin slot) =
    passed (mode_of_part rule mode (entry_in layers) slot) (Call.PartBegin slot ∷ [])
due_in rule paths mode layers held (Call.PartEnd slot) = due_at_end rule mode (mode_in paths (below layers)) held slot
due_in rule paths mode layers held (Call.TagHint tag) = hint_due mode (entry_in layers) (Call.TagHint tag)
due_in rule paths mode layers held call = passed mode (without_size call ∷ [])

-- the calls that are due at a call
abbrev pub due : Rule → List Path → Filtering → Call → List Call
due rule paths kept call = due_in rule paths (mode_in paths kept.layers) kept.layers kept.held call

-- the calls that are due at a list of calls
abbrev pub all_due : Rule → List Path → Filtering → List Call → List Call
all_due rule paths kept [] = []
all_due rule paths kept (call ∷ calls) = due rule paths kept call ++ all_due rule paths (kept_after rule paths kept call) calls
