use Rattle.std.specs.Prelude.{◌≡◌, ◌-◌, ◌^◌, IfSome}
use Rattle.sval_lines.specs.SourceLines.{unread, ahead_of}
use Rattle.sval_tool.proofs.LinesConverted.{AreConverted}
use Rattle.sval_tool.proofs.lines.write_lines.Given as goal

abbrev pub invariant-loop : goal.invariant-loop
invariant-loop g l = record {
  converted : IfSome (ahead_of (unread l.fn.lines.chunk.items l.fn.lines.from l.fn.lines.upto) (g.I.Source.told l.fn.lines.source)) (λ all. AreConverted g.K.Sink.told l.fn.conversion all l.fn.lines.number (ahead_of (unread l.lines.chunk.items l.lines.from l.lines.upto) (g.I.Source.told l.lines.source)) l.lines.number l.fn.out l.out);
  faults : (g.I.Source.told l.lines.source).faults ≡ (g.I.Source.told l.fn.lines.source).faults;
}

abbrev pub decreases-loop : goal.decreases-loop
decreases-loop g l = 2 ^ 64 - l.lines.number
