use Rattle.std.proofs.Common.{ap, refl}
use Rattle.sval_core.specs.Glances.{outside}
use Rattle.sval_core.proofs.Glances.{taken_is_whole}
use Rattle.sval_core.proofs.glance.is_surely_whole.Goals as goal

pub returns-in-Ok : goal.returns-in-Ok
returns-in-Ok g c = λ is. taken_is_whole refl c.in-Ok.ensures (ap outside is)
