use Rattle.std.proofs.Common.{false, ap}
use Rattle.sval_buffer.specs.FlatForest.{forest_in}
use Rattle.sval_buffer.proofs.KeptParts.{holds_it, holds_flagged, tell}
use Rattle.sval_buffer.proofs.parts.Parts.end_fragments.Goals as goal

pub invariant_of-self : goal.invariant_of-self
invariant_of-self g c =
    let h = holds_it (forest_in c.args.self.now) c.self.invariant (ap forest_in c.self.view_is) in
    tell (holds_flagged h false)

pub returns : goal.returns
returns g c =
    let h = holds_it (forest_in c.args.self.now) c.self.invariant (ap forest_in c.self.view_is) in
    (holds_flagged h false).is.view
