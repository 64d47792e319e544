-- What readings say spells their tree.
use Rattle.std.specs.Prelude.{List, true}
use Rattle.std.specs.String.{string_bytes}
use Rattle.sval_label.specs.Calls.{I64}
use Rattle.sval_core.specs.Values.{makes}
use Rattle.sval_core.specs.ValueTrees.{Tells}
use Rattle.sval_core.proofs.ValueProofs.{int_call_tells, text_calls_tell, seq_calls_tell}
use Rattle.readings.specs.declared.Reading.{Reading}
use Rattle.readings.specs.declared.Reading.TheVariants.{Note, Measure}
use Rattle.readings.specs.Readings.{reading_calls, reading_tree, readings_calls, readings_tree}

reading_tells : (reading : Reading) → Tells (makes (reading_calls reading)) (reading_tree reading)
reading_tells (Note text) = text_calls_tell true (string_bytes text)
reading_tells (Measure n) = int_call_tells I64 n

pub readings_tell : (readings : List Reading) → Tells (makes (readings_calls readings)) (readings_tree readings)
readings_tell readings = seq_calls_tell reading_calls reading_tree reading_tells readings
