use Rattle.std.proofs.Common.{◌<◌, subst, sym, ap, ◌∙◌, ◌||◌, drop, ◌+◌}
use Rattle.sval_filter.specs.Paths.{tails, has_end}
use Rattle.sval_filter.specs.SeenLayers.{seen_tails}
use Rattle.sval_filter.proofs.TailSteps.{end_step}
use Rattle.sval_filter.proofs.tails.Tails.has_end.Goals as goal

pub returns-then-is_end : goal.returns-then-is_end
returns-then-is_end c =
    let low = subst (λ n. c.loop-index.index < n) c.len-index-end.ensures c.loop-index-test.true in
    let rest = has_end (tails c.args.label.now (drop (c.loop-index.index + 1) (seen_tails c.args.self.now))) in
    sym (ap (λ b. b || rest) (sym c.is_end.ensures ∙ c.if-is_end.true)) ∙ sym (end_step c.args.label.now (seen_tails c.args.self.now) c.loop-index.index low) ∙ c.loop-index.invariant

pub loop-index-preserved : goal.loop-index-preserved
loop-index-preserved c =
    let low = subst (λ n. c.loop-index.index < n) c.len-index-end.ensures c.loop-index-test.true in
    let rest = has_end (tails c.args.label.now (drop (c.loop-index.index + 1) (seen_tails c.args.self.now))) in
    sym (ap (λ b. b || rest) (sym c.is_end.ensures ∙ c.if-is_end.false)) ∙ sym (end_step c.args.label.now (seen_tails c.args.self.now) c.loop-index.index low) ∙ c.loop-index.invariant
