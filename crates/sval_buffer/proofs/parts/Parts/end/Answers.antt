use Rattle.std.specs.Prelude.{slice_index_or}
use Rattle.std.proofs.Common.{◌≡◌, ℕ, ◌-◌, ◌<◌, length, ap, ◌∙◌, sym, arith, vec_len}
use Rattle.sval_buffer.specs.Forest.{Becomes}
use Rattle.sval_buffer.specs.SeenHolder.{held_place}
use Rattle.sval_buffer.specs.SeenParts.{with_holds, holder_of}
use Rattle.sval_buffer.specs.declared.part.Part.{Part}
use Rattle.sval_buffer.specs.FlatForest.{forest_in}
use Rattle.sval_buffer.proofs.KeptParts.{holds_it, tell}
use Rattle.sval_buffer.proofs.KeptPlaces.{newest_in, closed_around}
use Rattle.sval_buffer.proofs.parts.Parts.end.Goals as goal

pub overflow_sub-holds : goal.overflow_sub-holds
overflow_sub-holds g c =
    let h = holds_it (forest_in c.args.self.now) c.self.invariant (ap forest_in c.self.view_is) in
    let lt : c.in-Some.place < length c.self.inside.parts.items = newest_in (held_place c.self.inside.newest) h c.in-Some.place (sym c.in-Some.ensures) in
    let n : length c.self.inside.parts.items ≡ vec_len c.self.inside.parts = sym c.self.inside.parts.ok.0 in
    omega arith

pub overflow_sub-holds-in-Some : goal.overflow_sub-holds-in-Some
overflow_sub-holds-in-Some g c =
    let h = holds_it (forest_in c.args.self.now) c.self.invariant (ap forest_in c.self.view_is) in
    let lt : c.in-Some.place < length c.self.inside.parts.items = newest_in (held_place c.self.inside.newest) h c.in-Some.place (sym c.in-Some.ensures) in
    let n : length c.self.inside.parts.items ≡ vec_len c.self.inside.parts = sym c.self.inside.parts.ok.0 in
    omega arith

pub index_mut-requires : goal.index_mut-requires
index_mut-requires g c =
    let h = holds_it (forest_in c.args.self.now) c.self.invariant (ap forest_in c.self.view_is) in
    let lt : c.in-Some.place < length c.self.inside.parts.items = newest_in (held_place c.self.inside.newest) h c.in-Some.place (sym c.in-Some.ensures) in
    let n : length c.self.inside.parts.items ≡ vec_len c.self.inside.parts = sym c.self.inside.parts.ok.0 in
    omega arith

pub invariant_of-self : goal.invariant_of-self
invariant_of-self g c =
    let h = holds_it (forest_in c.args.self.now) c.self.invariant (ap forest_in c.self.view_is) in
    let d = c.index_mut.result.now in
    let same : c.close-self-inside.new.self ≡ with_holds (slice_index_or c.self.inside.parts.items c.in-Some.place d) (length c.self.inside.parts.items - c.in-Some.place - 1) =
    c.close-self-inside.ensures.closed
    ∙ ap (λ (n : ℕ). with_holds d (n - c.in-Some.place - 1)) (c.len.ensures ∙ c.self.inside.parts.ok.0)
    ∙ ap (λ (x : Part). with_holds x (length c.self.inside.parts.items - c.in-Some.place - 1)) c.index_mut.ensures.value in
    let around = c.close-self-inside.ensures.around ∙ ap holder_of c.index_mut.ensures.value in
    let k = closed_around (held_place c.self.inside.newest) h c.in-Some.place d c.close-self-inside.new.self (held_place c.close-self-inside.result) (sym c.in-Some.ensures) same around in
    tell k.holds

pub returns-in-Some : goal.returns-in-Some
returns-in-Some g c =
    let h = holds_it (forest_in c.args.self.now) c.self.invariant (ap forest_in c.self.view_is) in
    let d = c.index_mut.result.now in
    let same : c.close-self-inside.new.self ≡ with_holds (slice_index_or c.self.inside.parts.items c.in-Some.place d) (length c.self.inside.parts.items - c.in-Some.place - 1) =
    c.close-self-inside.ensures.closed
    ∙ ap (λ (n : ℕ). with_holds d (n - c.in-Some.place - 1)) (c.len.ensures ∙ c.self.inside.parts.ok.0)
    ∙ ap (λ (x : Part). with_holds x (length c.self.inside.parts.items - c.in-Some.place - 1)) c.index_mut.ensures.value in
    let around = c.close-self-inside.ensures.around ∙ ap holder_of c.index_mut.ensures.value in
    let k = closed_around (held_place c.self.inside.newest) h c.in-Some.place d c.close-self-inside.new.self (held_place c.close-self-inside.result) (sym c.in-Some.ensures) same around in
    k.answers ∙ ap Becomes (sym k.holds.is.view)
