use Rattle.std.proofs.Common.{ap, refl, true}
use Rattle.sval_core.specs.declared.glance.Glance.{Glance}
use Rattle.sval_core.specs.Glances.{glance_standing, outside}
use Rattle.sval_core.proofs.Glances.{takes_any_value}
use Rattle.sval_core.proofs.glance.GlanceStream.skip_value.Goals as goal

pub returns-clause-skipped : goal.returns-clause-skipped
returns-clause-skipped g c =
    let new : Glance = record { is_whole = true; refused = c.args.self.now.refused } in
    λ is. takes_any_value (glance_standing c.args.self.now) (glance_standing new) (ap outside c.if-self.false) refl refl refl
