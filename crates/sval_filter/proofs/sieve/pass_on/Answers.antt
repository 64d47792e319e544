use Rattle.std.proofs.Common.{rules}
use Rattle.sval_label.specs.Made.{call_of}
use Rattle.sval_filter.proofs.Sieving.{none_passed, one_taken, one_refused}
use Rattle.sval_filter.proofs.sieve.pass_on.Goals as goal

pub returns-then-not-passes : goal.returns-then-not-passes
returns-then-not-passes g c = none_passed g.S.Stream.law (g.S.Stream.standing c.args.inner.now) (g.S.Stream.standing c.args.inner.now) (call_of g.L.Lending.text g.L.Lending.bytes c.args.call) c.args.passes (search rules)

pub returns-in-Ok : goal.returns-in-Ok
returns-in-Ok g c = one_taken g.S.Stream.law (g.S.Stream.standing c.args.inner.now) (g.S.Stream.standing c.take.new.self) (call_of g.L.Lending.text g.L.Lending.bytes c.args.call) c.args.passes (search rules) c.in-Ok.ensures

pub returns-in-Err : goal.returns-in-Err
returns-in-Err g c = one_refused g.S.Stream.law (g.S.Stream.standing c.args.inner.now) (g.S.Stream.standing c.take.new.self) (call_of g.L.Lending.text g.L.Lending.bytes c.args.call) c.args.passes (search rules) c.in-Err.ensures
