use Rattle.std.proofs.Common.{rules, arith, ◌≡◌, ◌-◌, ◌<◌, length, sym, subst}
use Rattle.std.proofs.lemmas.Grind.{common_steps}
use Rattle.sval_tape.specs.Taped.{IsBadAt}
use Rattle.sval_tape.proofs.TapeStreams.{read_nothing, read_more, read_less, read_bad, read_all}
use Rattle.sval_tape.proofs.tape.Tape.read.Goals as goal

pub calls-init : goal.calls-init
calls-init c = read_nothing c.args.bytes.now (λ i. omega (arith, c.type_inv.bytes i))

pub calls-smaller : goal.calls-smaller
calls-smaller c = read_less _ c.in-Some.behind.now c.calls.invariant (sym c.in-Some.ensures)

pub calls-preserved : goal.calls-preserved
calls-preserved c = read_more _ c.in-Some.behind.now c.calls.invariant (sym c.in-Some.ensures)

pub returns-in-None-clause-bad : goal.returns-in-None-clause-bad
returns-in-None-clause-bad c = λ at e.
    let some : 0 < length c.calls.rest.now = first_of (omega arith, grind (arith, common_steps), search rules) in
    let is : length c.args.bytes.now - length c.calls.rest.now ≡ at = cc e in
    subst (λ n. IsBadAt c.args.bytes.now n) is (read_bad c.calls.invariant some (sym c.in-None.ensures))

pub invariant_of-result : goal.invariant_of-result
invariant_of-result c =
    let none : length c.calls.rest.now ≡ 0 = first_of (omega arith, grind (arith, common_steps), search rules) in
    read_all c.calls.invariant none

pub returns-clause-tape : goal.returns-clause-tape
returns-clause-tape c =
    let none : length c.calls.rest.now ≡ 0 = first_of (omega arith, grind (arith, common_steps), search rules) in
    read_all c.calls.invariant none
