use Rattle.std.specs.Prelude.{refl}
use Rattle.std.proofs.Common.{ap, sym, subst, arith, ◌∙◌, ◌++◌, ◌∷◌, ◌-◌, length, take}
use Rattle.sval_tape.specs.ReadCalls.{label_read, name_read}
use Rattle.sval_tape.specs.JsonAtFront.{ValueAt}
use Rattle.sval_tape.proofs.JsonFront.{if_there, some_at, tagged_at, field_at_front, all_fields, one_more_field, container_at, item_at_front, all_items, one_more_item, sequence_at}
use Rattle.sval_tape.proofs.json.+values.Goals as goal

pub container-returns : goal.container-returns
container-returns t c =
    if_there c.behind_end.result
    (λ behind ends. container_at (name_read c.in_ok-_name._name) c.in_ok-size.size c.args.bytes.now c.in_ok-_name.sized.now c.in_ok-size.inner.now c.in_ok-rest.rest.now behind.now c.args.kind
    (λ i. omega (arith, c.type_inv.bytes i)) c.in_ok-_name.ensures c.in_ok-size.ensures c.in_ok-put.ensures c.in_ok-rest.ensures (c.if-not-is_size.ensures refl) c.in_ok-put-2.ensures
    (ends ∙ ap (λ n. n ∷ take (length c.args.bytes.now - length c.in_ok-_name.sized.now) c.args.bytes.now ++ behind.now) c.end.ensures))
    c.behind_end.ensures

pub field-returns : goal.field-returns
field-returns t c =
    if_there c.behind_end.result
    (λ behind ends. field_at_front c.args.kind (label_read c.in_ok-label.label) c.args.bytes.now c.in_ok-label.inner.now c.in_ok-rest.rest.now behind.now c.args.first c.in_ok-label.ensures
    c.in_ok-put_key.ensures c.in_ok-rest.ensures
    (ends ∙ ap (λ n. n ∷ take (length c.args.bytes.now - length c.in_ok-label.inner.now) c.args.bytes.now ++ behind.now) c.part_end.ensures))
    c.behind_end.ensures

pub fields-returns-in_default : goal.fields-returns-in_default
fields-returns-in_default t c = all_fields c.args.kind c.args.bytes.now c.loop-count.rest.now c.args.out.now.bytes c.loop-count.out.bytes c.loop-count.count c.loop-count.invariant

pub fields-loop-count-preserved : goal.fields-loop-count-preserved
fields-loop-count-preserved t c =
    one_more_field c.args.kind c.args.bytes.now c.loop-count.rest.now c.args.out.now.bytes c.loop-count.out.bytes c.loop-count.count c.loop-count.invariant
    c.part_begin.result c.in-Some.operand.now c.in_ok-rest.rest.now c.field.new.out.bytes c.in-Some.ensures c.part_begin.ensures c.in_ok-rest.ensures

pub tagged-returns-in-Some : goal.tagged-returns-in-Some
tagged-returns-in-Some t c =
    if_there c.tagged_number.result
    (λ rest number. subst (λ x. ValueAt (24 ∷ x) rest.now c.args.out.now.bytes c.tagged_number.new.out.bytes) (sym c.in-Some.ensures) number)
    c.tagged_number.ensures

pub tagged-returns-in-Some-behind_some : goal.tagged-returns-in-Some-behind_some
tagged-returns-in-Some-behind_some t c =
    if_there c.behind_some-in-Some-behind_some.result
    (λ behind name. some_at c.args.bytes.now c.in-Some-behind_some.inner.now c.in_ok-rest.rest.now c.in_ok-behind.field-0.now behind.now c.in-Some-behind_some.ensures c.in_ok-rest.ensures c.in_ok-behind.ensures name)
    c.behind_some-in-Some-behind_some.ensures

pub tagged-returns : goal.tagged-returns
tagged-returns t c =
    if_there c.behind_end.result
    (λ behind ends. tagged_at (name_read c.in_ok-name.name) c.args.bytes.now c.in_ok-name.inner.now c.in_ok-rest-2.rest.now behind.now (λ i. omega (arith, c.type_inv.bytes i)) c.in_ok-name.ensures
    (c.if-not-is_ordinary.ensures refl) c.in_ok-rest-2.ensures ends)
    c.behind_end.ensures

pub item-returns : goal.item-returns
item-returns t c =
    if_there c.behind.result (λ behind ends. item_at_front c.args.first c.args.bytes.now c.in_ok-rest.rest.now behind.now c.in_ok-put_comma.ensures c.in_ok-rest.ensures ends) c.behind.ensures

pub items-returns-in_default : goal.items-returns-in_default
items-returns-in_default t c = all_items c.args.bytes.now c.loop-count.rest.now c.args.out.now.bytes c.loop-count.out.bytes c.loop-count.count c.loop-count.invariant

pub items-loop-count-preserved : goal.items-loop-count-preserved
items-loop-count-preserved t c =
    one_more_item c.args.bytes.now c.loop-count.rest.now c.args.out.now.bytes c.loop-count.out.bytes c.loop-count.count c.loop-count.invariant
    c.in-Some.inner.now c.in_ok-rest.rest.now c.item.new.out.bytes c.in-Some.ensures c.in_ok-rest.ensures

pub sequence-returns : goal.sequence-returns
sequence-returns t c =
    if_there c.behind.result
    (λ behind ends. sequence_at c.in_ok-size.size c.args.bytes.now c.in_ok-size.inner.now c.in_ok-rest.rest.now behind.now c.in_ok-size.ensures c.in_ok-put.ensures c.in_ok-rest.ensures
    (c.if-not-is_size.ensures refl) c.in_ok-put-2.ensures ends)
    c.behind.ensures
