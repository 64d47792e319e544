use Rattle.std.proofs.Common.{true, refl, ap, sym, is_ok}
use Rattle.sval_buffer.specs.Forest.{Becomes}
use Rattle.sval_buffer.specs.FlatForest.{forest_in}
use Rattle.sval_buffer.specs.SeenHolder.{held_place}
use Rattle.sval_buffer.proofs.Steps.{was_pushed}
use Rattle.sval_buffer.proofs.KeptParts.{holds_it, holds_flagged, tell}
use Rattle.sval_buffer.proofs.KeptPlaces.{empty_around}
use Rattle.sval_buffer.proofs.parts.Parts.begin_fragments.Goals as goal

pub invariant_of-self : goal.invariant_of-self
invariant_of-self g c =
    let h = holds_it (forest_in c.args.self.now) c.self.invariant (ap forest_in c.self.view_is) in
    let e = was_pushed c.push.result _ _ c.push.ensures.items (ap is_ok c.in-Ok.is) in
    let now = holds_flagged (empty_around (held_place c.self.inside.newest) h c.args.medium c.args.keeping c.empty-part.ensures refl) true in
    rw e (tell now)

pub returns-in-Ok : goal.returns-in-Ok
returns-in-Ok g c =
    let h = holds_it (forest_in c.args.self.now) c.self.invariant (ap forest_in c.self.view_is) in
    let e = was_pushed c.push.result _ _ c.push.ensures.items (ap is_ok c.in-Ok.is) in
    let now = holds_flagged (empty_around (held_place c.self.inside.newest) h c.args.medium c.args.keeping c.empty-part.ensures refl) true in
    ap Becomes (sym (rw e now.is.view))
