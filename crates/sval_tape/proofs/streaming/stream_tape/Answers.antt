use Rattle.std.proofs.Common.{rules, arith, ◌≡◌, ◌<◌, length}
use Rattle.std.proofs.lemmas.Grind.{common_steps}
use Rattle.sval_tape.proofs.Streamed.{streamed_nothing, streamed_more, streamed_stop, streamed_less, streamed_bad, streamed_all}
use Rattle.sval_tape.proofs.streaming.stream_tape.Goals as goal

pub calls-init : goal.calls-init
calls-init g c = streamed_nothing _ c.args.bytes.now (λ i. omega (arith, c.type_inv.bytes i))

pub calls-smaller : goal.calls-smaller
calls-smaller g c = streamed_less _ c.in-Taken.behind.now c.calls.invariant c.in-Taken.ensures.1

pub calls-preserved : goal.calls-preserved
calls-preserved g c = streamed_more _ _ c.in-Taken.behind.now c.calls.invariant c.in-Taken.ensures.1 c.in-Taken.ensures.2

pub returns-in-Refused : goal.returns-in-Refused
returns-in-Refused g c = streamed_stop _ _ c.in-Refused.ensures.1 c.calls.invariant c.in-Refused.ensures.2 c.in-Refused.ensures.3

pub returns-in-Bad : goal.returns-in-Bad
returns-in-Bad g c =
    let some : 0 < length c.calls.rest.now = first_of (omega arith, grind (arith, common_steps), search rules) in
    let bad = streamed_bad c.calls.invariant some c.in-Bad.ensures.0 in
    rw c.in-Bad.ensures.1 bad

pub returns : goal.returns
returns g c =
    let none : length c.calls.rest.now ≡ 0 = first_of (omega arith, grind (arith, common_steps), search rules) in
    streamed_all c.calls.invariant none
