use Rattle.std.proofs.Common.{ap, ◌∙◌, sym, Some}
use Rattle.sval_label.specs.Made.{call_of}
use Rattle.sval_core.specs.Checker.{State}
use Rattle.sval_filter.specs.Sieves.{sieve_view}
use Rattle.sval_filter.proofs.FilterSteps.{passed_on}
use Rattle.sval_filter.proofs.filter.pass.Goals as goal

pub returns-in-Ok : goal.returns-in-Ok
returns-in-Ok g c =
    let due = rw c.twice-call.ensures at c.in_ok-due.ensures in
    passed_on g.S.Stream.law c.args.filter.now.machine (sieve_view g.S.Stream.standing c.args.filter.now.sieve) (sieve_view g.S.Stream.standing c.step.new.sieve) (call_of g.L.Lending.text g.L.Lending.bytes c.args.call) c.args.filter.now.why c.args.filter.now.wants
    c.finish.new.self (due.0 ∙ ap (λ (s : State). Some s) (sym c.finish.ensures)) (rw c.twice-call.ensures at c.in-Ok.ensures)
