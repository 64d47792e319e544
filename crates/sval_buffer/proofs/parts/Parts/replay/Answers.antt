use Rattle.std.proofs.Common.{◌≡◌, ◌<◌, length, map, List, [], sym, ap, ◌∙◌, subst, refl, arith, vec_len}
use Rattle.std.proofs.lemmas.Bool.Decides.{nat_tests}
use Rattle.sval_core.specs.Law.{Emits}
use Rattle.sval_buffer.specs.Replay.{pass}
use Rattle.sval_core.specs.Values.{makes}
use Rattle.sval_buffer.specs.SeenHolder.{held_place}
use Rattle.sval_buffer.specs.SeenParts.{flat_part_of, seen_parts, places_around, AllKept}
use Rattle.sval_buffer.specs.Nested.{IsNested}
use Rattle.sval_buffer.specs.declared.part.Part.{Part}
use Rattle.sval_buffer.specs.FlatForest.{forest_in}
use Rattle.sval_buffer.proofs.Steps.{tells_it}
use Rattle.sval_buffer.proofs.Nests.{tells_nested}
use Rattle.sval_buffer.proofs.Replaying.{replay_none, replay_some, null_emitted}
use Rattle.sval_buffer.proofs.KeptParts.{holds_it, seen_length}
use Rattle.sval_buffer.proofs.parts.Parts.replay.Goals as goal

pub returns-then-is_empty : goal.returns-then-is_empty
returns-then-is_empty g c =
    let h = holds_it (forest_in c.args.self.now) c.self.invariant (ap forest_in c.self.view_is) in
    let seen = seen_parts c.self.inside.stores c.self.inside.parts.items in
    let n : length c.self.inside.parts.items ≡ vec_len c.self.inside.parts = sym c.self.inside.parts.ok.0 in
    let z : length c.self.inside.parts.items ≡ 0 = grind (arith, nat_tests, c.if-is_empty.true) in
    null_emitted g.S.Stream.law (g.S.Stream.standing c.args.stream.now) (g.S.Stream.standing c.null.new.self) c.null.result (forest_in c.args.self.now)
    (replay_none seen (places_around seen (held_place c.self.inside.newest)) (forest_in c.args.self.now) (tells_it h.is) (seen_length _ c.self.inside.parts.items ∙ z)) c.null.ensures

pub replay_parts-requires : goal.replay_parts-requires
replay_parts-requires g c κs =
    let h = holds_it (forest_in c.args.self.now) c.self.invariant (ap forest_in c.self.view_is) in
    let s = c.self.inside.stores in
    ((refl, tt), (subst (λ (ps : List Part). IsNested (seen_parts s ps)) (sym c.deref.ensures.value) (tells_nested (seen_parts s c.self.inside.parts.items) (places_around (seen_parts s c.self.inside.parts.items) (held_place c.self.inside.newest)) (forest_in c.args.self.now) (tells_it h.is)), subst (AllKept s) (sym c.deref.ensures.value) h.kept))

pub returns : goal.returns
returns g c =
    let h = holds_it (forest_in c.args.self.now) c.self.invariant (ap forest_in c.self.view_is) in
    let s = c.self.inside.stores in
    let seen = seen_parts s c.self.inside.parts.items in
    let n : length c.self.inside.parts.items ≡ vec_len c.self.inside.parts = sym c.self.inside.parts.ok.0 in
    let some : 0 < length c.self.inside.parts.items = grind (arith, nat_tests, c.if-is_empty.ensures) in
    let size = seen_length s c.self.inside.parts.items in
    let some_seen : 0 < length seen = omega arith in
    let e = ap (λ (ps : List Part). pass 0 [] (map flat_part_of (seen_parts s ps))) c.deref.ensures.value ∙ replay_some seen (places_around seen (held_place c.self.inside.newest)) (forest_in c.args.self.now) (tells_it h.is) some_seen in
    subst (λ calls. Emits g.S.Stream.law c.replay_parts.result (g.S.Stream.standing c.args.stream.now) (makes calls) (g.S.Stream.standing c.replay_parts.new.stream)) e c.replay_parts.ensures
