-- A tree without what a rule leaves out of it.
use Rattle.std.specs.Prelude.{ℕ, List, Option, Some, None}
use Rattle.sval_label.specs.Calls.{Slot}
use Rattle.sval_core.specs.Trees.{Tree, Text, Tagged, Enum, Container, Parts, none, part}
use Rattle.sval_filter.specs.Paths.{Path, Rule, Fate, LeftOut, Stays, Within, fate_of}
pub use Rattle.sval_filter.specs.Parts.{part_fate}

-- the label of an entry whose key this is
abbrev pub key_label : Tree → Option (List ℕ)
key_label (Text bytes) = Some bytes
key_label _ = None

-- a part in front of others, by what becomes of it
abbrev pub placed : Fate → Slot → Tree → (List Path → Tree) → Parts → Parts
placed LeftOut slot tree prune parts = parts
placed Stays slot tree prune parts = part slot tree parts
placed (Within paths) slot tree prune parts = part slot (prune paths) parts

-- the same of an entry, whose key stays as it is
abbrev pub placed_entry : Fate → Tree → Tree → (List Path → Tree) → Parts → Parts
placed_entry LeftOut key value prune parts = parts
placed_entry Stays key value prune parts = part Slot.Key key (part Slot.Value value parts)
placed_entry (Within paths) key value prune parts = part Slot.Key key (part Slot.Value (prune paths) parts)

abbrev mutual
  -- what a tagged value or an enum holds is pruned with the same paths
  pub pruned : Rule → List Path → Tree → Tree
  pruned rule paths (Tagged name tree) = Tagged name (pruned rule paths tree)
  pruned rule paths (Enum name tree) = Enum name (pruned rule paths tree)
  pruned rule paths (Container head parts) = Container head (pruned_parts rule paths parts)
  pruned rule paths tree = tree

  -- an entry goes by its key's label, and each other part by itself
  pub pruned_parts : Rule → List Path → Parts → Parts
  pruned_parts rule paths none = none
  pruned_parts rule paths (part Slot.Key key (part Slot.Value value parts)) =
      placed_entry (fate_of rule paths (key_label key)) key value (λ rests. pruned rule rests value) (pruned_parts rule paths parts)
  pruned_parts rule paths (part slot tree parts) =
      placed (part_fate rule paths slot) slot tree (λ rests. pruned rule rests tree) (pruned_parts rule paths parts)
