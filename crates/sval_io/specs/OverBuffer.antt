-- A sink over a buffer of std, and a source over a reader, that tell their bytes.
use Rattle.std.specs.Prelude.{ℕ, List, Option, None, Some, length}
use Rattle.std.specs.Io.Buffered.{writer_buffer, writer_contents}
use Rattle.sval_io.specs.Sinks.{Told}
use Rattle.sval_io.specs.Sources.{Supply}
use Rattle.sval_io.specs.OverReader.{OverReader}
use Rattle.sval_io.specs.declared.buffered.BufferedSink.{BufferedSink}

-- such a sink took these bytes, where it tells them, and holds these back; it has failed so often
abbrev pub buffered_told : Option (List ℕ) → List ℕ → ℕ → Told
buffered_told text buffer faults = record { text = text; room = None; held = Some (length buffer); faults = faults; wants = 0 }

-- such a source has these bytes left, where it tells them, and has failed so often
abbrev pub known_supply : Option (List ℕ) → ℕ → Supply
known_supply left faults = record { left = left; faults = faults }

-- what a sink over a buffer took, where its writer tells what it holds: what the writer holds, and behind it what is held back
abbrev pub taken_bytes : {W : Type 0} → (W → Option (List ℕ)) → BufferedSink W → Option (List ℕ)
taken_bytes contents sink = writer_contents contents sink.writer

-- the bytes that it holds back
abbrev pub bytes_held : {W : Type 0} → BufferedSink W → List ℕ
bytes_held sink = writer_buffer sink.writer

-- how often it failed
abbrev pub sink_faults : {W : Type 0} → BufferedSink W → ℕ
sink_faults sink = sink.faults

-- what it tells
abbrev pub over_buffer_told : {W : Type 0} → (W → Option (List ℕ)) → BufferedSink W → Told
over_buffer_told contents sink = buffered_told (taken_bytes contents sink) (bytes_held sink) (sink_faults sink)

-- what a source over a reader tells, where the reader tells what it has left
abbrev pub known_reader_told : {R : Type 0} → (R → Option (List ℕ)) → OverReader R → Supply
known_reader_told remaining source = known_supply (remaining source.reader) source.faults
