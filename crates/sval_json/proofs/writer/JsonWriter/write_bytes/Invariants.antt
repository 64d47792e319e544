use Rattle.std.proofs.Common.{length}
use Rattle.sval_json.specs.WriterLaw.{writer_view}
use Rattle.sval_json.proofs.Combined.{IsDue}
use Rattle.sval_json.proofs.writer.JsonWriter.write_bytes.Given as goal

abbrev pub invariant-loop-byte : goal.invariant-loop-byte
invariant-loop-byte g l = IsDue l.bytes (writer_view g.K.Sink.told l.initial.self) l.rest (writer_view g.K.Sink.told l.self)

abbrev pub decreases-loop-byte : goal.decreases-loop-byte
decreases-loop-byte g l = length l.rest
