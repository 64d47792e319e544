-- What is kept of names, and what the begins that say them open.
use Rattle.std.specs.Prelude.{ℕ, Bool, true, false, Option, is_some}
use Rattle.std.specs.Bool.{then_some}
use Rattle.sval_label.specs.Calls.{Name, Record, Tuple, RecordTuple}
use Rattle.sval_core.specs.Trees as kind
use Rattle.sval_core.specs.Checker.{Frame, InTagged, InEnum, InContainer}
use Rattle.sval_check.specs.Stacked.{stacked, top_if, below_if, label_in, index_in}
use Rattle.sval_check.specs.declared.kept.NameParts.{NameParts}
use Rattle.sval_check.specs.declared.kept.NamedValue.{NamedValue}
use Rattle.sval_check.specs.declared.kept.NamedValue.TheVariants as value
use Rattle.sval_check.specs.declared.names.Names.{Names}

-- which parts a name has
abbrev pub parts_in : Name → NameParts
parts_in name = record { tag = is_some name.tag; label = is_some name.label; index = is_some name.index }

-- the innermost name, which has these parts
abbrev pub innermost_name : NameParts → Names → Name
innermost_name parts names = record { tag = top_if parts.tag names.tags; label = then_some parts.label (label_in names.labels); index = then_some parts.index (index_in names.indexes) }

-- the names with one more
abbrev pub with_name : Name → Names → Names
with_name name names = record { tags = stacked name.tag names.tags; labels = stacked name.label names.labels; indexes = stacked name.index names.indexes }

-- the names without the innermost, which has these parts
abbrev pub without_name : NameParts → Names → Names
without_name parts names = record { tags = below_if parts.tag names.tags; labels = below_if parts.label names.labels; indexes = below_if parts.index names.indexes }

-- a value with a name is a container
abbrev pub is_container_value : NamedValue → Bool
is_container_value value.Tagged = false
is_container_value value.Enum = false
is_container_value container = true

-- what the begin of a value with this name opens; of a container so much is still to come
abbrev pub value_frame : NamedValue → Name → Option ℕ → Frame
value_frame value.Tagged name left = InTagged name
value_frame value.Enum name left = InEnum name
value_frame value.Record name left = InContainer (Record name) kind.Field left
value_frame value.Tuple name left = InContainer (Tuple name) kind.Place left
value_frame value.RecordTuple name left = InContainer (RecordTuple name) kind.FieldPlace left

-- text under a tag of this kind is meant in a way of its own
abbrev pub means_text : kind.TextKind → Bool
means_text kind.Ordinary = false
means_text other = true
