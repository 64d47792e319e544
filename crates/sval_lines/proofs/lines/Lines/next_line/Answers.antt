use Rattle.std.proofs.Common.{◌≡◌, ◌+◌, [], ◌∙◌, arith}
use Rattle.std.proofs.lemmas.Grind.{common_steps}
use Rattle.sval_lines.proofs.Skipping.{skips_on}
use Rattle.sval_lines.proofs.lines.Lines.next_line.Goals as goal

pub loop-smaller : goal.loop-smaller
loop-smaller g c =
    let more : c.take_line.new.self.number ≡ c.loop.self.number + 1 = rw c.if-branch.true at c.in_ok-take_line.ensures.number in
    omega (arith, more, c.in_ok-take_line.ensures.below)

pub loop-preserved : goal.loop-preserved
loop-preserved g c =
    let empty : c.take_line.new.self.line.items ≡ [] = grind (arith, common_steps) in
    record {
      skipped = skips_on _ _ _ _ _ _ _ c.loop.invariant.skipped (rw c.if-branch.true at c.in_ok-take_line.ensures.ok) empty (rw c.if-branch.true at c.in_ok-take_line.ensures.number);
      faults = c.in_ok-take_line.ensures.faults ∙ c.loop.invariant.faults;
    }
