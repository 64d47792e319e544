use Rattle.std.specs.Prelude.{is_some}
use Rattle.std.proofs.Common.{◌≡◌, ◌<◌, true, false, length, sym, ap, ◌∙◌, arith, vec_len}
use Rattle.std.proofs.lemmas.Bool.Decides.{nat_tests}
use Rattle.std.proofs.lemmas.List.{length-map}
use Rattle.sval_buffer.specs.FlatForest.{forest_in}
use Rattle.sval_buffer.specs.SeenHolder.{held_place}
use Rattle.sval_buffer.specs.SeenParts.{seen_part, seen_parts}
use Rattle.sval_buffer.proofs.Steps.{none_complete, open_incomplete, complete_is}
use Rattle.sval_buffer.proofs.KeptParts.{holds_it}
use Rattle.sval_buffer.proofs.KeptPlaces.{some_around, none_around}
use Rattle.sval_buffer.proofs.parts.Parts.is_complete.Goals as goal
use Rattle.sval_buffer.proofs.parts.Parts.is_complete.Goals.{then-is_empty-via-then-is_empty, then-is_empty-via-else-is_empty+then-is_some}

pub returns-then-is_empty : goal.returns-then-is_empty
returns-then-is_empty g c =
    let h = holds_it (forest_in c.args.self.now) c.self.invariant (ap forest_in c.self.view_is) in
    let n : length c.self.inside.parts.items ≡ vec_len c.self.inside.parts = sym c.self.inside.parts.ok.0 in
    elim c.then-is_empty.branch [
      | then-is_empty-via-then-is_empty w ↦ let z : length c.self.inside.parts.items ≡ 0 = grind (arith, nat_tests, w.if-is_empty.true) in sym (none_complete h.is (length-map c.self.inside.parts.items (seen_part _) ∙ z))
      | then-is_empty-via-else-is_empty+then-is_some w ↦ let z : is_some (held_place c.self.inside.newest) ≡ true = ap is_some (sym w.get.ensures) ∙ sym w.is_some.ensures ∙ w.if-is_some.true in sym (open_incomplete h.is (some_around (seen_parts c.self.inside.stores c.self.inside.parts.items) (held_place c.self.inside.newest) z))
    ]

pub returns : goal.returns
returns g c =
    let h = holds_it (forest_in c.args.self.now) c.self.invariant (ap forest_in c.self.view_is) in
    let n : length c.self.inside.parts.items ≡ vec_len c.self.inside.parts = sym c.self.inside.parts.ok.0 in
    let size = length-map c.self.inside.parts.items (seen_part c.self.inside.stores) in
    let some : 0 < length c.self.inside.parts.items = grind (arith, nat_tests, c.if-is_empty.ensures) in
    let none : is_some (held_place c.self.inside.newest) ≡ false = ap is_some (sym c.get.ensures) ∙ sym c.is_some.ensures ∙ c.if-is_some.false in
    complete_is h.is (omega arith) (none_around (seen_parts c.self.inside.stores c.self.inside.parts.items) (held_place c.self.inside.newest) none)
