-- What the law of the writer means for a value that is streamed to it, as a fact.
use Rattle.std.specs.Prelude.{◌≡◌, Result, Ok, Err}
use Rattle.std.specs.Borrow.{MutBor}
use Rattle.sval_label.specs.declared.error.Error.{Error}
use Rattle.sval_core.specs.Law.{Emission, Emits}
use Rattle.sval_io.specs.Sinks.{Told}
use Rattle.sval_json.specs.declared.style.Variants.{Variants}
use Rattle.sval_json.specs.declared.error.ErrorKind.{ErrorKind}
use Rattle.sval_json.specs.declared.writer.JsonWriter.{JsonWriter}
use Rattle.sval_json.specs.ErrorKinds.{error_kind}
use Rattle.sval_json.specs.WriterLaw.{fresh_writer, sink_of, stop_of, writer_law, writer_standing}
use Rattle.sval_json.specs.Written.{StreamsJson}

-- what a value's streaming answered, where a refusal has the writer's error
abbrev pub answer_of : {K : Type 0} → Result (Unit {0}) Error → JsonWriter K → Result (Unit {0}) ErrorKind
answer_of (Ok done) writer = Ok done
answer_of (Err refusal) writer = Err (error_kind (stop_of writer))

-- a value that was streamed to a fresh writer is written, or not, as `stream_to_io_write_with` says; the writer still has the sink
-- that it was made with
abbrev pub ValuesAreWritten : {K : Type 0} → (K → Told) → Type 0
ValuesAreWritten {K} told =
    (sink : MutBor K) (style : Variants) (e : Emission) (result : Result (Unit {0}) Error) (writer : JsonWriter K)
    → Emits writer_law result (writer_standing told (fresh_writer sink style)) e (writer_standing told writer)
    → StreamsJson style e (answer_of result writer) (told sink.now) (told (sink_of writer).now)
    × ((sink_of writer).ghost_name ≡ sink.ghost_name)
