use Rattle.std.proofs.Common.{sym, ap, ◌∙◌, ◌∷◌}
use Rattle.sval_cbor_read.proofs.CborNext.{items_at, first_item, left_within}
use Rattle.sval_cbor_read.proofs.cbor_parts.CborItems.next.Goals as goal

pub returns-in-Some : goal.returns-in-Some
returns-in-Some c =
    sym c.self.view_is ∙ first_item c.self.inside.bytes.now c.self.inside.nodes.now c.in-Some.behind.now c.self.invariant.stand c.in-Some.ensures.found
    ∙ ap (λ value. value ∷ items_at c.self.inside.bytes.now c.in-Some.behind.now) (sym c.new-item.ensures)

pub invariant_of-self : goal.invariant_of-self
invariant_of-self c = left_within c.self.inside.bytes.now c.self.inside.nodes.now c.in-Some.behind.now c.self.invariant c.in-Some.ensures.found
