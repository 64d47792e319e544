use Rattle.std.proofs.Common.{rules}
use Rattle.sval_label.specs.Made.{call_of}
use Rattle.sval_buffer.specs.SeenBuffers.{capture_of}
use Rattle.sval_filter.specs.Sieves.{sieve_view}
use Rattle.sval_filter.proofs.Sieving.{settles_passed, settles_held, settles_wanting}
use Rattle.sval_filter.proofs.sieve.settle.Goals as goal

pub returns-then-not-holds : goal.returns-then-not-holds
returns-then-not-holds g c = settles_passed g.S.Stream.law (sieve_view g.S.Stream.standing c.args.sieve.now) (call_of g.L.Lending.text g.L.Lending.bytes c.args.call) (call_of g.L.Lending.text g.L.Lending.bytes c.args.relayed) c.args.holds c.args.passes (g.S.Stream.standing c.pass_on.new.inner) c.pass_on.result (search rules) c.pass_on.ensures

pub returns-in-Ok : goal.returns-in-Ok
returns-in-Ok g c = settles_held g.S.Stream.law (sieve_view g.S.Stream.standing c.args.sieve.now) (call_of g.L.Lending.text g.L.Lending.bytes c.args.call) (call_of g.L.Lending.text g.L.Lending.bytes c.args.relayed) c.args.holds c.args.passes (capture_of c.hold.new.held).forest (search rules) c.in-Ok.ensures

pub returns-in-Err : goal.returns-in-Err
returns-in-Err g c = rw c.from.ensures (settles_wanting g.S.Stream.law (sieve_view g.S.Stream.standing c.args.sieve.now) (call_of g.L.Lending.text g.L.Lending.bytes c.args.call) (call_of g.L.Lending.text g.L.Lending.bytes c.args.relayed) c.args.holds c.args.passes (capture_of c.hold.new.held).forest (search rules) c.in-Err.ensures)
