use Rattle.std.proofs.Common.{ap, refl}
use Rattle.sval_buffer.specs.SeenParts.{fragment_bytes}
use Rattle.sval_buffer.specs.FlatForest.{forest_in}
use Rattle.sval_buffer.specs.SeenHolder.{held_place}
use Rattle.sval_buffer.proofs.KeptParts.{holds_it}
use Rattle.sval_buffer.proofs.PushParts.{told_by, tells_by, by_newest, last_pushed, last_kept, nothing_pushed}
use Rattle.sval_buffer.proofs.parts.Parts.push.Goals as goal

pub push-requires-clause-kept : goal.push-requires-clause-kept
push-requires-clause-kept g c =
    let h = holds_it (forest_in c.args.self.now) c.self.invariant (ap forest_in c.self.view_is) in
    last_kept h c.args.medium (fragment_bytes c.args.fragment) _ _ c.self.inside.parts.ok.0 (c.in-Some.ensures.variant.0 refl) c.in-Some.ensures.value

pub invariant_of-self : goal.invariant_of-self
invariant_of-self g c =
    let h = holds_it (forest_in c.args.self.now) c.self.invariant (ap forest_in c.self.view_is) in
    tells_by (by_newest c.self.inside.stores c.self.inside.parts.items (held_place c.self.inside.newest) (last_pushed h c.args.medium (fragment_bytes c.args.fragment) _ _ _ _ c.self.inside.parts.ok.0 (c.in-Some.ensures.variant.0 refl) c.in-Some.ensures.value c.push.ensures.grows c.push.ensures.still c.push.ensures.pushes))

pub returns-in-Some : goal.returns-in-Some
returns-in-Some g c =
    let h = holds_it (forest_in c.args.self.now) c.self.invariant (ap forest_in c.self.view_is) in
    told_by (by_newest c.self.inside.stores c.self.inside.parts.items (held_place c.self.inside.newest) (last_pushed h c.args.medium (fragment_bytes c.args.fragment) _ _ _ _ c.self.inside.parts.ok.0 (c.in-Some.ensures.variant.0 refl) c.in-Some.ensures.value c.push.ensures.grows c.push.ensures.still c.push.ensures.pushes))

pub returns-in-None : goal.returns-in-None
returns-in-None g c =
    let h = holds_it (forest_in c.args.self.now) c.self.invariant (ap forest_in c.self.view_is) in
    rw c.outside.ensures (told_by (nothing_pushed h c.args.medium (fragment_bytes c.args.fragment) _ c.self.inside.parts.ok.0 c.in-None.ensures.variant.1))
