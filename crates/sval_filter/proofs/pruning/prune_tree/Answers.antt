use Rattle.std.proofs.Common.{sym, subst}
use Rattle.sval_filter.specs.Pruning.{IsWanting}
use Rattle.sval_buffer.specs.Forest.{Forest, replayed}
use Rattle.sval_buffer.specs.SeenBuffers.{capture_of}
use Rattle.sval_core.specs.Spells.{Spells}
use Rattle.sval_filter.specs.Pruned.{pruned}
use Rattle.sval_filter.proofs.PruneSteps.{replays_left}
use Rattle.sval_filter.proofs.PruneWants.{stops_wanting}
use Rattle.sval_filter.proofs.pruning.prune_tree.Goals as goal

pub returns-in-Ok-clause-ok : goal.returns-in-Ok-clause-ok
returns-in-Ok-clause-ok g c =
    let tree = c.requires.spells.0 in
    let left = pruned c.args.rule c.args.paths.now tree in
    let p = c.in-Ok.ensures.ok tree c.requires.spells.1 in
    record {
      willing = c.requires.willing;
      tree = tree;
      spells = c.requires.spells.1;
      left = subst (λ (f : Forest). Spells (replayed f) left) (sym c.into_value.ensures)
          (replays_left p.1.0 left (capture_of c.in-Ok.buffer) (capture_of c.new-buffer.result) c.new-buffer.ensures p.1.1 p.1.2);
    }

pub want_of-requires : goal.want_of-requires
want_of-requires g c =
    let tree = c.requires.spells.0 in
    subst (IsWanting c.in-Err.why) (sym c.into_err.ensures)
    (stops_wanting (g.V.Value.emission c.args.v.now) tree c.args.rule c.args.paths.now c.in-Err.why (capture_of c.new-buffer.result) (capture_of c.in-Err.buffer) c.new-buffer.ensures
    c.requires.willing c.requires.spells.1 c.in-Err.ensures.err)
