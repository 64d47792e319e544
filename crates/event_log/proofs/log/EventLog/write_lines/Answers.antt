use Rattle.std.proofs.Common.{ap, ◌∙◌}
use Rattle.event_log.specs.Logs.{Log}
use Rattle.event_log.proofs.Captured.{second_lines}
use Rattle.event_log.proofs.Joined.{writes_slices}
use Rattle.event_log.proofs.log.EventLog.write_lines.Goals as goal

pub write_lines-requires-2 : goal.write_lines-requires-2
write_lines-requires-2 g c = second_lines c.as_slices.result.0.now c.as_slices.result.1.now c.self.inside.ring.items c.as_slices.ensures c.self.invariant

pub returns-clause-writes : goal.returns-clause-writes
returns-clause-writes g c =
    writes_slices (g.K.Sink.told c.write_lines-2.new.sink) c.write_lines-2.result c.as_slices.result.0.now c.as_slices.result.1.now c.args.self.now.events
    (c.as_slices.ensures ∙ ap (λ (log : Log). log.events) c.self.view_is) c.in_ok-write_lines.ensures c.write_lines-2.ensures
