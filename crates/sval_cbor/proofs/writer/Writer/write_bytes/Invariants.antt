use Rattle.std.proofs.Common.{length}
use Rattle.sval_cbor.specs.WriterLaw.{cbor_writer_state, writer_target, cbor_writer_view}
use Rattle.sval_cbor.proofs.Combined.{IsRest}
use Rattle.sval_cbor.proofs.writer.Writer.write_bytes.Given as goal

abbrev pub invariant-loop-byte : goal.invariant-loop-byte
invariant-loop-byte g l = IsRest l.bytes (cbor_writer_state l.initial.self) (writer_target g.K.Sink.told l.initial.self) l.rest (cbor_writer_view g.K.Sink.told l.self)

abbrev pub decreases-loop-byte : goal.decreases-loop-byte
decreases-loop-byte g l = length l.rest
