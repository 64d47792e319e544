use Rattle.std.proofs.Common.{refl, ap, sym, is_ok}
use Rattle.sval_label.specs.Grouped.{int_call}
use Rattle.sval_buffer.specs.SeenInts.{wide_int}
use Rattle.sval_buffer.specs.Forest as forest
use Rattle.sval_buffer.specs.Forest.{Becomes}
use Rattle.sval_buffer.specs.FlatForest.{forest_in}
use Rattle.sval_buffer.specs.SeenHolder.{held_place}
use Rattle.sval_buffer.specs.declared.part.Part.TheVariants as part
use Rattle.sval_buffer.proofs.Steps.{was_pushed}
use Rattle.sval_buffer.proofs.KeptParts.{holds_it, tell}
use Rattle.sval_buffer.proofs.KeptPlaces.{added_around}
use Rattle.sval_buffer.proofs.parts.Parts.wide.Goals as goal

pub invariant_of-self-2 : goal.invariant_of-self-2
invariant_of-self-2 g c =
    let h = holds_it (forest_in c.args.self.now) c.self.invariant (ap forest_in c.self.view_is) in
    let e = was_pushed c.push.result _ _ c.push.ensures.items (ap is_ok c.in-Ok.is) in
    let now = added_around (held_place c.self.inside.newest) h (part.Wide c.args.signed c.self.inside.newest c.args.number) (forest.Single (int_call (wide_int c.args.signed c.args.number))) refl (λ place o. refl) refl tt in
    rw e (tell now)

pub returns : goal.returns
returns g c =
    let h = holds_it (forest_in c.args.self.now) c.self.invariant (ap forest_in c.self.view_is) in
    let e = was_pushed c.push.result _ _ c.push.ensures.items (ap is_ok c.in-Ok.is) in
    let now = added_around (held_place c.self.inside.newest) h (part.Wide c.args.signed c.self.inside.newest c.args.number) (forest.Single (int_call (wide_int c.args.signed c.args.number))) refl (λ place o. refl) refl tt in
    ap Becomes (sym (rw e now.is.view))
