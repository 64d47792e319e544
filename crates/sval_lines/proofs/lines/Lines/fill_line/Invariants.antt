use Rattle.std.proofs.Common.{◌≡◌, ◌-◌, ◌^◌, [], true, vec_len}
use Rattle.sval_lines.specs.SourceLines.{unread, ahead_of, has_no_feed}
use Rattle.sval_lines.proofs.Filling.{Stands}
use Rattle.sval_lines.proofs.lines.Lines.fill_line.Given as goal

abbrev pub invariant-loop-self : goal.invariant-loop-self
invariant-loop-self g l = record {
  stands : Stands (ahead_of (unread l.fn.self.chunk.items l.fn.self.from l.fn.self.upto) (g.I.Source.told l.fn.self.source))
      l.self.line.items [] (g.I.Source.told l.self.source);
  no_feed : has_no_feed l.self.line.items ≡ true;
  unread : unread l.self.chunk.items l.self.from l.self.upto ≡ [];
  faults : (g.I.Source.told l.self.source).faults ≡ (g.I.Source.told l.fn.self.source).faults;
  number : l.self.number ≡ l.fn.self.number;
}

abbrev pub decreases-loop-self : goal.decreases-loop-self
decreases-loop-self g l = 2 ^ 64 - vec_len l.self.line
