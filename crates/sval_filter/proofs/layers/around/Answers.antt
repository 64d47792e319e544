use Rattle.std.proofs.Common.{refl, rules}
use Rattle.sval_filter.specs.SeenLayers.{seen_layer}
use Rattle.sval_filter.proofs.LayerSteps.{around_rows}
use Rattle.sval_filter.proofs.layers.around.Goals as goal

pub returns : goal.returns
returns c = around_rows seen_layer c.args.layers.now _ c.saturating_sub-count.result (search rules) refl
