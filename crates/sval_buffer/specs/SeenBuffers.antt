-- What a buffer of the program is, as contracts see it.
use Rattle.sval_buffer.specs.FlatForest.{forest_in}
use Rattle.sval_core.specs.Law.{Standing}
use Rattle.sval_buffer.specs.Capture.{Capture, capture_standing}
use Rattle.sval_buffer.specs.declared.value_buf.AnyValueBuf.{AnyValueBuf}

-- what its calls left, why it refused a call last, and how often memory was wanting
abbrev pub capture_of : {N : Type 0} → AnyValueBuf N → Capture
capture_of buffer = record { forest = forest_in buffer.parts; refusal = buffer.refusal; wants = buffer.wants }

-- where a buffer stands as a stream
abbrev pub buffer_standing : {N : Type 0} → AnyValueBuf N → Standing Capture
buffer_standing buffer = capture_standing (capture_of buffer)
