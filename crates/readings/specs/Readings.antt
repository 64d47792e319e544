-- What readings say, and the trees that they are.
use Rattle.std.specs.Prelude.{List, [], ◌∷◌, true}
use Rattle.std.specs.String.{string_bytes}
use Rattle.sval_label.specs.Calls.{Call, Int, I64}
use Rattle.sval_core.specs.Law.{Emission}
use Rattle.sval_core.specs.Values.{makes}
use Rattle.sval_core.specs.Trees as tree
use Rattle.sval_core.specs.Trees.{Tree}
use Rattle.sval_core.specs.ValueCalls.{text_calls, seq_calls}
use Rattle.sval_core.specs.ValueTrees.{seq_tree}
use Rattle.readings.specs.declared.Reading.{Reading}
use Rattle.readings.specs.declared.Readings.{Readings}
use Rattle.readings.specs.declared.Reading.TheVariants.{Note, Measure}

-- the calls of a reading: those of a text, or a number
abbrev pub reading_calls : Reading → List Call
reading_calls (Note text) = text_calls true (string_bytes text)
reading_calls (Measure n) = Int I64 n ∷ []

-- the tree of a reading: a text, or a number
abbrev pub reading_tree : Reading → Tree
reading_tree (Note text) = tree.Text (string_bytes text)
reading_tree (Measure n) = tree.Int I64 n

-- the calls of the sequence of them
abbrev pub readings_calls : List Reading → List Call
readings_calls readings = seq_calls reading_calls readings

-- all readings, which never refuse
abbrev pub readings_emission : Readings → Emission
readings_emission all = makes (readings_calls all.readings.items)

-- the tree of the sequence of them
abbrev pub readings_tree : List Reading → Tree
readings_tree readings = seq_tree reading_tree readings
