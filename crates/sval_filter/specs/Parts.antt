-- What becomes of a part of a container by its place.
use Rattle.std.specs.Prelude.{List, Some}
use Rattle.sval_label.specs.Calls.{Slot}
use Rattle.sval_filter.specs.Paths.{Path, Rule, Fate, Within, fate_of}

-- what becomes of a part that belongs to no entry: a field has a label, and other parts are pruned with the same paths
abbrev pub part_fate : Rule → List Path → Slot → Fate
part_fate rule paths (Slot.Field tag label) = fate_of rule paths (Some label.text)
part_fate rule paths (Slot.FieldPlace tag label index) = fate_of rule paths (Some label.text)
part_fate rule paths _ = Within paths
