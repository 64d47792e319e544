-- Calls written to a sink as a tape: the law of a writer.
use Rattle.std.specs.Prelude.{List, ℕ, length, Option, Some, None}
use Rattle.sval_label.specs.Calls.{Call}
use Rattle.sval_core.specs.Law.{Law, Standing}
use Rattle.sval_io.specs.declared.sink.SinkError.{SinkError}
use Rattle.sval_io.specs.Sinks.{Told, appended, less_room, HasRoom, WritesFront}
use Rattle.sval_tape.specs.declared.writer.TapeWriter.{TapeWriter}
use Rattle.sval_tape.specs.Tapes.{call_bytes}

-- what a writer has taken, as a stream: what its sink tells but for what it holds back, and the cause of the last refusal
pub record Taping : Type 0 where
  pub told : Told
  pub why : Option SinkError

-- the writer after its sink took these bytes
abbrev pub with_taped : List ℕ → Taping → Taping
with_taped bytes taping =
    record taping { told = record taping.told { text = appended taping.told.text bytes; room = less_room taping.told.room (length bytes) } }

-- what a refused call leaves: a first part of its bytes, by a cause of the sink
abbrev pub IsTapedBy : Option SinkError → Call → Told → Told → Type 0
IsTapedBy (Some why) call old new = WritesFront why old (call_bytes call) new
IsTapedBy None call old new = ⊥

-- a call is taken where its bytes have room, and then they were written
abbrev pub tape_writer_law : Law Taping
tape_writer_law = record {
  accepts = λ taping call. HasRoom taping.told (call_bytes call);
  after = λ taping call. with_taped (call_bytes call) taping;
  stopped = λ taping call left. IsTapedBy left.why call taping.told left.told;
}

-- ---- the writer in code

-- the sink that it writes to
abbrev pub tape_sink : {K : Type 0} → TapeWriter K → K
tape_sink writer = writer.out

-- the cause of the last refusal
abbrev pub tape_error : {K : Type 0} → TapeWriter K → Option SinkError
tape_error writer = writer.why

-- the writer as its law sees it; `told` is what the sink tells
abbrev pub taping_of : {K : Type 0} → (K → Told) → TapeWriter K → Taping
taping_of told writer = record { told = record (told (tape_sink writer)) { held = None }; why = tape_error writer }

-- the same with the two counts of the sink
abbrev pub tape_writer_standing : {K : Type 0} → (K → Told) → TapeWriter K → Standing Taping
tape_writer_standing told writer =
    let sink = told (tape_sink writer) in record { view = taping_of told writer; faults = sink.faults; wants = sink.wants }
