use Rattle.std.proofs.Common.{◌≡◌, List, [], ◌∷◌, ◌++◌, refl, ap, ◌∙◌, sym}
use Rattle.sval_buffer.specs.Forest.{Becomes}
use Rattle.sval_buffer.specs.declared.part.Part.{Part}
use Rattle.sval_buffer.specs.declared.part.Part.TheVariants as part
use Rattle.sval_buffer.specs.FlatForest.{forest_in}
use Rattle.sval_buffer.specs.SeenHolder.{held_place}
use Rattle.sval_buffer.proofs.KeptParts.{holds_it, tell}
use Rattle.sval_buffer.proofs.KeptPlaces.{place_now}
use Rattle.sval_buffer.proofs.NamedParts.{holds_container}
use Rattle.sval_buffer.proofs.parts.Parts.begin_named.Goals as goal

pub invariant_of-self-in-Ok : goal.invariant_of-self-in-Ok
invariant_of-self-in-Ok g c =
    let h = holds_it (forest_in c.args.self.now) c.self.invariant (ap forest_in c.self.view_is) in
    let p = part.NamedContainer c.self.inside.newest c.in-Ok.at 0 in
    let now = holds_container (held_place c.self.inside.newest) h c.self.inside.newest c.in-Ok.ensures.extends c.in-Ok.ensures.bytes c.in-Ok.ensures.kept refl (place_now c.self.inside.stores c.self.inside.parts.items c.in_ok-place.ensures.place c.self.view_is) in
    let e : c.push_reserved.new.self.items ≡ c.self.inside.parts.items ++ (p ∷ []) = c.push_reserved.ensures.items ∙ ap (λ (ps : List Part). ps ++ (p ∷ [])) c.reserve.ensures.items in
    rw e (tell now)

pub returns-in-Ok : goal.returns-in-Ok
returns-in-Ok g c =
    let h = holds_it (forest_in c.args.self.now) c.self.invariant (ap forest_in c.self.view_is) in
    let p = part.NamedContainer c.self.inside.newest c.in-Ok.at 0 in
    let now = holds_container (held_place c.self.inside.newest) h c.self.inside.newest c.in-Ok.ensures.extends c.in-Ok.ensures.bytes c.in-Ok.ensures.kept refl (place_now c.self.inside.stores c.self.inside.parts.items c.in_ok-place.ensures.place c.self.view_is) in
    let e : c.push_reserved.new.self.items ≡ c.self.inside.parts.items ++ (p ∷ []) = c.push_reserved.ensures.items ∙ ap (λ (ps : List Part). ps ++ (p ∷ [])) c.reserve.ensures.items in
    ap Becomes (sym (rw e now.is.view))
