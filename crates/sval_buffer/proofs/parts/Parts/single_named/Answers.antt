use Rattle.std.proofs.Common.{◌≡◌, List, [], ◌∷◌, ◌++◌, refl, ap, ◌∙◌, sym}
use Rattle.sval_buffer.specs.Forest.{Becomes}
use Rattle.sval_buffer.specs.declared.part.Part.{Part}
use Rattle.sval_buffer.specs.declared.part.Part.TheVariants as part
use Rattle.sval_buffer.specs.FlatForest.{forest_in}
use Rattle.sval_buffer.specs.SeenHolder.{held_place}
use Rattle.sval_buffer.proofs.KeptParts.{holds_it, tell}
use Rattle.sval_buffer.proofs.NamedParts.{holds_single}
use Rattle.sval_buffer.proofs.parts.Parts.single_named.Goals as goal

pub invariant_of-self-in-Ok : goal.invariant_of-self-in-Ok
invariant_of-self-in-Ok g c =
    let h = holds_it (forest_in c.args.self.now) c.self.invariant (ap forest_in c.self.view_is) in
    let p = part.Named c.self.inside.newest c.in-Ok.at in
    let now = holds_single (held_place c.self.inside.newest) h c.self.inside.newest c.in-Ok.ensures.extends c.in-Ok.ensures.bytes c.in-Ok.ensures.kept refl in
    let e : c.push_reserved.new.self.items ≡ c.self.inside.parts.items ++ (p ∷ []) = c.push_reserved.ensures.items ∙ ap (λ (ps : List Part). ps ++ (p ∷ [])) c.reserve.ensures.items in
    rw e (tell now)

pub returns-in-Ok : goal.returns-in-Ok
returns-in-Ok g c =
    let h = holds_it (forest_in c.args.self.now) c.self.invariant (ap forest_in c.self.view_is) in
    let p = part.Named c.self.inside.newest c.in-Ok.at in
    let now = holds_single (held_place c.self.inside.newest) h c.self.inside.newest c.in-Ok.ensures.extends c.in-Ok.ensures.bytes c.in-Ok.ensures.kept refl in
    let e : c.push_reserved.new.self.items ≡ c.self.inside.parts.items ++ (p ∷ []) = c.push_reserved.ensures.items ∙ ap (λ (ps : List Part). ps ++ (p ∷ [])) c.reserve.ensures.items in
    ap Becomes (sym (rw e now.is.view))
