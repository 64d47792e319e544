use Rattle.std.proofs.Common.{rules, ap, arith}
use Rattle.sval_io.specs.FaultPlans.{Plan}
use Rattle.sval_io.proofs.FaultyWrites.{written_beside}
use Rattle.sval_io.proofs.faulty.FaultySinkSink.write.Goals as goal

pub returns-then-fails_next-clause-writes : goal.returns-then-fails_next-clause-writes
returns-then-fails_next-clause-writes c =
    let failed = c.fails_next.ensures.failed c.if-fails_next.true in
    let counts = c.fails_next.ensures.counts in
    rw (← c.self.view_is, failed) search rules

pub returns-clause-writes : goal.returns-clause-writes
returns-clause-writes c =
    let well = c.fails_next.ensures.went_well c.if-fails_next.false in
    rw (← c.self.view_is) (written_beside c.write.result c.self.inside.taken c.write.new.self c.self.inside.plan c.fails_next.new.self c.args.piece.now c.share.result c.share.ensures.some (ap (λ (plan : Plan). plan.faults) well) c.write.ensures.writes)
