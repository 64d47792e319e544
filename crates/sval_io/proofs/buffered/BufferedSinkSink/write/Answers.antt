use Rattle.std.proofs.Common.{refl}
use Rattle.sval_io.proofs.Buffering.{keeps_behind, declines_since}
use Rattle.sval_io.proofs.buffered.BufferedSinkSink.write.Goals as goal

pub returns-in-Err : goal.returns-in-Err
returns-in-Err g c =
    let same = keeps_behind g.W.Write.contents g.W.Tells.tells g.met.W.Tells.always_or_never c.args.self.now.writer c.write.new.self c.in-Err.ensures.bytes in
    record { declines = declines_since _ same refl (record { faults = refl; wants = refl }) c.fault-in-Err.ensures.declines; full = λ failed. tt }
