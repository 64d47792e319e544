use Rattle.std.proofs.Common.{refl, ap, sym, is_ok}
use Rattle.sval_buffer.specs.SeenParts.{single_call}
use Rattle.sval_buffer.specs.Forest as forest
use Rattle.sval_buffer.specs.Forest.{Becomes}
use Rattle.sval_buffer.specs.FlatForest.{forest_in}
use Rattle.sval_buffer.specs.SeenHolder.{held_place}
use Rattle.sval_buffer.specs.declared.part.Part.TheVariants as part
use Rattle.sval_buffer.proofs.Steps.{was_pushed}
use Rattle.sval_buffer.proofs.KeptParts.{holds_it, tell}
use Rattle.sval_buffer.proofs.KeptPlaces.{added_around}
use Rattle.sval_buffer.proofs.parts.Parts.single.Goals as goal

pub invariant_of-self-2 : goal.invariant_of-self-2
invariant_of-self-2 g c =
    let h = holds_it (forest_in c.args.self.now) c.self.invariant (ap forest_in c.self.view_is) in
    let e = was_pushed c.push.result _ _ c.push.ensures.items (ap is_ok c.in-Ok.is) in
    let now = added_around (held_place c.self.inside.newest) h (part.Single c.self.inside.newest c.args.call) (forest.Single (single_call c.args.call)) refl (λ place o. refl) refl tt in
    rw e (tell now)

pub returns : goal.returns
returns g c =
    let h = holds_it (forest_in c.args.self.now) c.self.invariant (ap forest_in c.self.view_is) in
    let e = was_pushed c.push.result _ _ c.push.ensures.items (ap is_ok c.in-Ok.is) in
    let now = added_around (held_place c.self.inside.newest) h (part.Single c.self.inside.newest c.args.call) (forest.Single (single_call c.args.call)) refl (λ place o. refl) refl tt in
    ap Becomes (sym (rw e now.is.view))
