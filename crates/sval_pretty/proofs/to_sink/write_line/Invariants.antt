use Rattle.sval_io.specs.Sinks.{WritesWhole}
use Rattle.sval_pretty.specs.Layout.{new_line}
use Rattle.sval_pretty.proofs.to_sink.write_line.Given as goal

abbrev pub invariant-loop-level : goal.invariant-loop-level
invariant-loop-level g l = WritesWhole (g.K.Sink.told l.fn.sink) (new_line l.level) (g.K.Sink.told l.sink)
