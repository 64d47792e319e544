use Rattle.std.proofs.Common.{◌<◌, ◌++◌, ◌+◌, subst, ap, ◌∙◌, drop}
use Rattle.sval_filter.specs.SeenPaths.{labels_in, rests_in}
use Rattle.sval_filter.specs.SeenLayers.{seen_tails}
use Rattle.sval_filter.specs.Paths.{tails}
use Rattle.sval_filter.proofs.TailSteps.{none_more, one_more}
use Rattle.sval_filter.proofs.tails.Tails.rests.Goals.{in-Some+in_ok-push-in-Some, in-None}
use Rattle.sval_filter.proofs.tails.Tails.rests.Goals as goal

pub loop-index-preserved : goal.loop-index-preserved
loop-index-preserved c =
    let low = subst (λ n. c.loop-index.index < n) c.len-index-end.ensures c.loop-index-test.true in
    let paths = seen_tails c.args.self.now in
    let left = tails c.args.label.now (drop (c.loop-index.index + 1) paths) in
    elim c.match-rest.branch [
      | in-Some+in_ok-push-in-Some w ↦
          ap (λ rests. rests_in rests.items ++ left) w.rests-is
          ∙ one_more (λ rest. labels_in rest.now) c.args.label.now paths c.loop-index.index low c.loop-index.rests.items c.loop-index.invariant c.rest.result w.in-Some.rest _ c.rest.ensures w.in-Some.is w.in_ok-push-in-Some.ensures.items
      | in-None w ↦
          ap (λ rests. rests_in rests.items ++ left) w.rests-is
          ∙ none_more (λ rest. labels_in rest.now) c.args.label.now paths c.loop-index.index low c.loop-index.rests.items c.loop-index.invariant c.rest.result c.rest.ensures w.in-None.is
    ]
