use Rattle.std.proofs.Common.{◌≡◌, ◌-◌, ◌^◌}
use Rattle.sval_lines.specs.SourceLines.{unread, ahead_of}
use Rattle.sval_lines.proofs.Skipping.{IsSkipped}
use Rattle.sval_lines.proofs.lines.Lines.next_line.Given as goal

abbrev pub invariant-loop : goal.invariant-loop
invariant-loop g l = record {
  skipped : IsSkipped (ahead_of (unread l.fn.self.chunk.items l.fn.self.from l.fn.self.upto) (g.I.Source.told l.fn.self.source))
      (ahead_of (unread l.self.chunk.items l.self.from l.self.upto) (g.I.Source.told l.self.source)) l.fn.self.number l.self.number;
  faults : (g.I.Source.told l.self.source).faults ≡ (g.I.Source.told l.fn.self.source).faults;
}

abbrev pub decreases-loop : goal.decreases-loop
decreases-loop g l = 2 ^ 64 - l.self.number
