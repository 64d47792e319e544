-- How calls are treated by what has begun and has no end yet, and what becomes of a part that begins there.
use Rattle.std.specs.Prelude.{ℕ, List, [], ◌∷◌, Option}
use Rattle.sval_label.specs.Calls.{Slot}
use Rattle.sval_filter.specs.Paths.{Path, Rule, Fate, LeftOut, Stays, Within, fate_of}
use Rattle.sval_filter.specs.Parts.{part_fate}

-- how calls are treated: held inside a key, and elsewhere by what becomes of what they are in
pub data Mode : Type 0 where
  Holding : Mode
  By : Fate → Mode

-- what has begun and has no end yet: how calls in it are treated, and what becomes of the entry whose key was the last part in it
pub record Layer : Type 0 where
  pub mode : Mode
  pub entry : Fate

-- how calls are treated here: outside all, they are pruned with the filter's paths
abbrev pub mode_in : List Path → List Layer → Mode
mode_in paths [] = By (Within paths)
mode_in paths (layer ∷ layers) = layer.mode

-- what becomes of the entry whose value comes next
abbrev pub entry_in : List Layer → Fate
entry_in [] = Stays
entry_in (layer ∷ layers) = layer.entry

-- a layer in which no key has ended
abbrev pub layer : Mode → Layer
layer mode = record { mode = mode; entry = Stays }

-- the innermost layer with this fate of its entry
abbrev pub with_entry : Fate → List Layer → List Layer
with_entry entry [] = []
with_entry entry (innermost ∷ layers) = record { mode = innermost.mode; entry = entry } ∷ layers

-- what becomes of the entry of a key with this label, in a map that is treated so
abbrev pub fate_in : Rule → Fate → Option (List ℕ) → Fate
fate_in rule (Within paths) label = fate_of rule paths label
fate_in rule fate label = fate

-- what becomes of a part that is no key
abbrev pub slot_fate : Rule → List Path → Fate → Slot → Fate
slot_fate rule paths entry Slot.Value = entry
slot_fate rule paths entry slot = part_fate rule paths slot

-- how a part is treated that begins in a layer
abbrev pub mode_of_part : Rule → Mode → Fate → Slot → Mode
mode_of_part rule Holding entry slot = Holding
mode_of_part rule (By LeftOut) entry slot = By LeftOut
mode_of_part rule (By fate) entry Slot.Key = Holding
mode_of_part rule (By Stays) entry slot = By Stays
mode_of_part rule (By (Within paths)) entry slot = By (slot_fate rule paths entry slot)
