use Rattle.std.proofs.Common.{arith, ◌<◌, ◌≤◌, true, length, ap}
use Rattle.std.proofs.lemmas.Result.{err_from_is_err_and}
use Rattle.sval_relay.specs.Ways.{is_captured}
use Rattle.sval_relay.specs.Verdict.{asked_in, ending}
use Rattle.sval_relay.proofs.ListTexts.{stopped_at}
use Rattle.sval_relay.proofs.ListSteps.{served_none, next_at, served_next, served_to_end}
use Rattle.sval_relay.proofs.lists.write_list.Goals as goal

pub loop-to-init : goal.loop-to-init
loop-to-init g c = λ trees are. served_none (asked_in c.args.way) (ending (asked_in c.args.way) true) (g.K.Sink.told c.args.out.now) c.args.lines c.args.ends.now trees are

pub overflow_sub-to : goal.overflow_sub-to
overflow_sub-to g c =
    let within : c.loop-to.to-index < length c.args.ends.now = rw (← c.as_slice-to-items.ensures) c.loop-to-test.true in
    let next = next_at c.args.ends.now c.loop-to.to-index within (c.loop-to.invariant c.requires.0 c.requires.1) in
    rw c.as_slice-to-items.ensures next.later

pub unreachable-requires : goal.unreachable-requires
unreachable-requires g c =
    let within : c.loop-to.to-index < length c.args.ends.now = rw (← c.as_slice-to-items.ensures) c.loop-to-test.true in
    let next = next_at c.args.ends.now c.loop-to.to-index within (c.loop-to.invariant c.requires.0 c.requires.1) in
    let never = c.in_default.ensures.comes.1 (rw c.as_slice-to-items.ensures next.there) in cc never

pub write_item-requires : goal.write_item-requires
write_item-requires g c =
    let within : c.loop-to.to-index < length c.args.ends.now = rw (← c.as_slice-to-items.ensures) c.loop-to-test.true in
    let next = next_at c.args.ends.now c.loop-to.to-index within (c.loop-to.invariant c.requires.0 c.requires.1) in
    (next.tree, rw (c.in-Some.tree-is, c.in-Some.ensures.first, c.as_slice-to-items.ensures) next.spells, next.printable)

pub returns-in_err-write_item-clause-writes : goal.returns-in_err-write_item-clause-writes
returns-in_err-write_item-clause-writes g c = λ trees are.
    let e = err_from_is_err_and c.from_residual.result c.from_residual.ensures.1 in
    let within : c.loop-to.to-index < length c.args.ends.now = rw (← c.as_slice-to-items.ensures) c.loop-to-test.true in
    let next = next_at c.args.ends.now c.loop-to.to-index within (c.loop-to.invariant trees are) in
    let item = c.in_err-write_item.ensures next.tree (rw (c.in-Some.tree-is, c.in-Some.ensures.first, c.as_slice-to-items.ensures) next.spells) next.printable in
    rw (e.1, e.2) (stopped_at (is_captured c.args.way) g.K.Sink.told c.args.out.now c.loop-to.out c.write_item.new.out c.in_err-write_item.field-0.0 next.tree next.written item)

pub loop-to-preserved : goal.loop-to-preserved
loop-to-preserved g c = λ trees are.
    let within : c.loop-to.to-index < length c.args.ends.now = rw (← c.as_slice-to-items.ensures) c.loop-to-test.true in
    let next = next_at c.args.ends.now c.loop-to.to-index within (c.loop-to.invariant trees are) in
    let item = c.in_ok-write_item.ensures next.tree (rw (c.in-Some.tree-is, c.in-Some.ensures.first, c.as_slice-to-items.ensures) next.spells) next.printable in
    rw (c.in-Some.behind-is, c.in-Some.ensures.behind, c.as_slice-to-items.ensures) (served_next next item)

pub returns-in_err-write_item-clause-some_end : goal.returns-in_err-write_item-clause-some_end
returns-in_err-write_item-clause-some_end g c = λ e.
    let within : c.loop-to.to-index < length c.args.ends.now = rw (← c.as_slice-to-items.ensures) c.loop-to-test.true in
    omega (arith, within)

pub returns-clause-writes : goal.returns-clause-writes
returns-clause-writes g c = λ trees are.
    let past : length c.args.ends.now ≤ c.loop-to.to-index = omega (arith, c.loop-to-test.false, ap length c.as_slice-to-items.ensures) in
    served_to_end c.args.ends.now c.loop-to.to-index past (c.loop-to.invariant trees are)
