use Rattle.std.proofs.Common.{sym, ◌∙◌, refl}
use Rattle.sval_cbor_read.proofs.CborNext.{entries_at, first_entry, lone_key, pair_row, item_within, left_within}
use Rattle.sval_cbor_read.proofs.cbor_parts.CborEntries.next.Goals as goal

pub returns-in-None-behind_item : goal.returns-in-None-behind_item
returns-in-None-behind_item c =
    let none = sym c.self.view_is ∙ lone_key c.self.inside.bytes.now c.self.inside.nodes.now c.in-Some.values.now c.self.invariant.stand c.in-Some.ensures.found (c.in-None-behind_item.ensures.nothing refl) in (none, none)

pub returns-in-Some-behind_item : goal.returns-in-Some-behind_item
returns-in-Some-behind_item c =
    let bytes = c.self.inside.bytes.now in
    sym c.self.view_is ∙ first_entry bytes c.self.inside.nodes.now c.in-Some.values.now c.in-Some-behind_item.behind.now c.self.invariant.stand c.in-Some.ensures.found c.in-Some-behind_item.ensures.found
    ∙ pair_row (entries_at bytes c.in-Some-behind_item.behind.now) (sym c.new-key.ensures) (sym c.new-value.ensures)

pub new-value-requires : goal.new-value-requires
new-value-requires c =
    let bytes = c.self.inside.bytes.now in
    let values = left_within bytes c.self.inside.nodes.now c.in-Some.values.now c.self.invariant c.in-Some.ensures.found in
    item_within bytes c.in-Some.values.now c.in-Some-behind_item.behind.now values c.in-Some-behind_item.ensures.found

pub invariant_of-self : goal.invariant_of-self
invariant_of-self c =
    let bytes = c.self.inside.bytes.now in
    let values = left_within bytes c.self.inside.nodes.now c.in-Some.values.now c.self.invariant c.in-Some.ensures.found in
    left_within bytes c.in-Some.values.now c.in-Some-behind_item.behind.now values c.in-Some-behind_item.ensures.found
