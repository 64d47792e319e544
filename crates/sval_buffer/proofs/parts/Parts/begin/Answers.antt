use Rattle.std.proofs.Common.{refl, ap, sym, is_ok}
use Rattle.sval_buffer.specs.Forest.{Becomes}
use Rattle.sval_buffer.specs.SeenParts.{begin_call}
use Rattle.sval_buffer.specs.declared.part.Part.TheVariants as part
use Rattle.sval_buffer.specs.FlatForest.{forest_in}
use Rattle.sval_buffer.specs.SeenHolder.{held_place}
use Rattle.sval_buffer.proofs.Steps.{was_pushed}
use Rattle.sval_buffer.proofs.KeptParts.{holds_it, tell}
use Rattle.sval_buffer.proofs.KeptPlaces.{begun_around, place_now}
use Rattle.sval_buffer.proofs.parts.Parts.begin.Goals as goal

pub invariant_of-self : goal.invariant_of-self
invariant_of-self g c =
    let h = holds_it (forest_in c.args.self.now) c.self.invariant (ap forest_in c.self.view_is) in
    let p = part.Container c.args.begin c.self.inside.newest c.args.size 0 in
    let e = was_pushed c.push.result _ _ c.push.ensures.items (ap is_ok c.in-Ok.is) in
    let now = begun_around (held_place c.self.inside.newest) h p (begin_call c.args.begin c.args.size) (held_place c.in_ok-place.place) refl refl (place_now c.self.inside.stores c.self.inside.parts.items c.in_ok-place.ensures.place c.self.view_is) tt in
    rw e (tell now)

pub returns-in-Ok : goal.returns-in-Ok
returns-in-Ok g c =
    let h = holds_it (forest_in c.args.self.now) c.self.invariant (ap forest_in c.self.view_is) in
    let p = part.Container c.args.begin c.self.inside.newest c.args.size 0 in
    let e = was_pushed c.push.result _ _ c.push.ensures.items (ap is_ok c.in-Ok.is) in
    let now = begun_around (held_place c.self.inside.newest) h p (begin_call c.args.begin c.args.size) (held_place c.in_ok-place.place) refl refl (place_now c.self.inside.stores c.self.inside.parts.items c.in_ok-place.ensures.place c.self.view_is) tt in
    ap Becomes (sym (rw e now.is.view))
