use Rattle.std.specs.Prelude.{take}
use Rattle.sval_io.specs.Sinks.{WritesWhole}
use Rattle.event_log.specs.Logs.{lines_of}
use Rattle.event_log.proofs.lines.write_lines.Given as goal

abbrev pub invariant-loop-event : goal.invariant-loop-event
invariant-loop-event g l = WritesWhole (g.K.Sink.told l.fn.sink) (lines_of (take l.event-index l.events)) (g.K.Sink.told l.sink)
