use Rattle.std.proofs.Common.{◌≡◌}
use Rattle.std.specs.Io.KnownBytes.{Keeps}
use Rattle.sval_io.specs.OverWriter.{over_writer_told}
use Rattle.sval_io.proofs.real.RealSinkSink.flush.Given as goal

-- nothing was taken, and no fault was counted
abbrev pub invariant-loop : goal.invariant-loop
invariant-loop g l = record {
  told : over_writer_told l.self ≡ over_writer_told l.initial.self;
  last_error : l.self.last_error ≡ l.initial.self.last_error;
  passed_on : Keeps (g.W.Write.contents l.initial.self.writer) (g.W.Write.contents l.self.writer);
}
