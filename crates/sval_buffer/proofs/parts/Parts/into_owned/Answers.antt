use Rattle.std.proofs.Common.{List, map, ap, ◌∙◌}
use Rattle.sval_buffer.specs.FlatForest.{FlatForest, forest_in}
use Rattle.sval_buffer.specs.SeenHolder.{held_place}
use Rattle.sval_buffer.specs.SeenParts.{SeenPart, flat_part_of, seen_parts, places_around, owned_part}
use Rattle.sval_buffer.specs.declared.part.Part.{Part}
use Rattle.sval_buffer.proofs.KeptParts.{holds_it, parts_stay, tell}
use Rattle.sval_buffer.proofs.KeptPlaces.{grown_around, still_newest}
use Rattle.sval_buffer.proofs.OwnedParts.{holds_owned}
use Rattle.sval_buffer.proofs.parts.Parts.into_owned.Goals as goal

pub invariant_of-result : goal.invariant_of-result
invariant_of-result g c =
    let h = holds_it (forest_in c.args.self) c.self.invariant (ap forest_in c.self.view_is) in
    let same = c.in-Ok.ensures.copies ∙ ap (λ (ps : List Part). map owned_part (seen_parts c.self.inside.stores ps)) c.deref.ensures.value in
    let now = still_newest c.self.inside.stores c.self.inside.parts.items (held_place c.self.inside.newest) (holds_owned c.show_names_alone.ensures h same c.in-Ok.ensures.kept) in
    tell now

pub returns-in-Ok-clause-ok : goal.returns-in-Ok-clause-ok
returns-in-Ok-clause-ok g c =
    let h = holds_it (forest_in c.args.self) c.self.invariant (ap forest_in c.self.view_is) in
    let same = c.in-Ok.ensures.copies ∙ ap (λ (ps : List Part). map owned_part (seen_parts c.self.inside.stores ps)) c.deref.ensures.value in
    let now = still_newest c.self.inside.stores c.self.inside.parts.items (held_place c.self.inside.newest) (holds_owned c.show_names_alone.ensures h same c.in-Ok.ensures.kept) in
    now.is.view

pub invariant_of-result-in-Err : goal.invariant_of-result-in-Err
invariant_of-result-in-Err g c =
    let h = holds_it (forest_in c.args.self) c.self.invariant (ap forest_in c.self.view_is) in
    tell (grown_around (held_place c.self.inside.newest) h c.in-Err.ensures.grows)

pub returns-clause-err : goal.returns-clause-err
returns-clause-err g c =
    let h = holds_it (forest_in c.args.self) c.self.invariant (ap forest_in c.self.view_is) in
    let flat : List SeenPart → FlatForest = λ seen. record { parts = map flat_part_of seen; places = places_around seen (held_place c.self.inside.newest); in_fragments = c.self.inside.in_fragments } in
    (ap flat (parts_stay c.self.inside.parts.items c.in-Err.ensures.grows h.kept).1 ∙ c.self.view_is, c.no_memory.ensures)
