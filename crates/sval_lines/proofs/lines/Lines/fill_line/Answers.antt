use Rattle.std.proofs.Common.{◌≡◌, ◌≢◌, [], true, false, ap, refl, arith}
use Rattle.std.proofs.lemmas.Grind.{common_steps}
use Rattle.sval_lines.proofs.Filling.{first_feed_moved, later_feed_moved, ended_line}
use Rattle.sval_lines.proofs.lines.Lines.fill_line.Goals as goal

pub returns-then-branch-clause-ok : goal.returns-then-branch-clause-ok
returns-then-branch-clause-ok g c =
    first_feed_moved _ _ _ _ _ _ _ refl (ap g.I.Source.told c.take_unread.ensures.source) c.clear.ensures.items (rw c.if-branch.true at c.in_ok-take_unread.ensures.ok)

pub returns-then-branch-3-clause-ok : goal.returns-then-branch-3-clause-ok
returns-then-branch-3-clause-ok g c =
    later_feed_moved _ _ _ _ _ _ _ _ _ c.loop-self.invariant.stands c.loop-self.invariant.no_feed (rw c.if-branch-2.true at c.in_ok-refill.ensures.ok)
    (ap (λ l. l.items) c.refill.ensures.line) (ap g.I.Source.told c.take_unread-in-loop-self.ensures.source) (rw c.if-branch-3.true at c.in_ok-take_unread-2.ensures.ok)

pub returns-clause-ok : goal.returns-clause-ok
returns-clause-ok g c =
    let none : c.is_empty.result ≡ true → c.refill.new.self.line.items ≡ [] = λ t. grind (arith, common_steps) in
    let some : c.is_empty.result ≡ false → c.refill.new.self.line.items ≢ [] = λ f e. grind (arith, common_steps) in
    ended_line _ _ _ _ _ _ c.loop-self.invariant.stands c.loop-self.invariant.no_feed (rw c.if-branch-2.false at c.in_ok-refill.ensures.ok)
    (ap (λ l. l.items) c.refill.ensures.line) c.is_empty.result none some
