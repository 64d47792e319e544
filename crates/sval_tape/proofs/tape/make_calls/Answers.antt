use Rattle.std.proofs.Common.{rules, arith, ◌≡◌, None, sym}
use Rattle.std.proofs.lemmas.Grind.{common_steps}
use Rattle.sval_core.proofs.Emissions.{passes_on}
use Rattle.sval_tape.specs.Reading.{call_at_front}
use Rattle.sval_tape.proofs.TapeStreams.{made_more, made_stop, made_less, made_all}
use Rattle.sval_tape.proofs.tape.make_calls.Goals as goal

pub returns-in_err-make : goal.returns-in_err-make
returns-in_err-make g c =
    passes_on c.from_residual.result c.from_residual.ensures.0 (made_stop _ _ c.in-Some.behind.now c.calls.invariant (sym c.in-Some.ensures) c.in_err-make.ensures)

pub calls-smaller : goal.calls-smaller
calls-smaller g c = made_less _ c.in-Some.behind.now c.calls.invariant (sym c.in-Some.ensures)

pub calls-preserved : goal.calls-preserved
calls-preserved g c = made_more _ _ c.in-Some.behind.now c.calls.invariant (sym c.in-Some.ensures) c.in_ok-make.ensures

pub returns : goal.returns
returns g c =
    let none : call_at_front c.calls.rest.now ≡ None = first_of (cc c.in_default.ensures, grind (arith, common_steps, c.in_default.ensures), search rules) in
    made_all c.calls.invariant none
