use Rattle.std.proofs.Common.{ap, Err, ◌∙◌}
use Rattle.sval_filter.specs.SeenPaths.{labels_in}
use Rattle.sval_filter.proofs.PathTexts.{label_added, label_wanting}
use Rattle.sval_filter.proofs.paths.Paths.extend_path.Goals.{in-Ok, in-Err}
use Rattle.sval_filter.proofs.paths.Paths.extend_path.Goals as goal

pub returns : goal.returns
returns c =
    let items = c.self.inside.paths.items in
    let is = c.in-Some.ensures.item in
    elim c.match-push_label.branch [
      | in-Ok w ↦ label_added (λ path. labels_in path.items) items c.in-Some.path.now c.push_label.new.path c.args.label.now _ c.self.inside.paths.ok.0 is.0 is.1 c.self.view_is w.result-is w.in-Ok.ensures
      | in-Err w ↦ label_wanting (λ path. labels_in path.items) items c.in-Some.path.now c.push_label.new.path c.args.label.now _ c.self.inside.paths.ok.0 is.0 is.1 c.self.view_is (w.result-is ∙ ap Err w.from.ensures) w.in-Err.ensures
    ]
