use Rattle.std.proofs.Common.{ap, sym, refl, inl}
use Rattle.sval_label.specs.Made.{call_of}
use Rattle.sval_filter.specs.Sieves.{sieve_view}
use Rattle.sval_filter.specs.FilterLaw.{Inner}
use Rattle.sval_filter.specs.SeenFilters.{ruled_of}
use Rattle.sval_filter.proofs.FilterSteps.{filter_takes_it, cause_from, refuses_after, kept_as}
use Rattle.sval_filter.proofs.filter.FilterStream.take.Goals as goal

pub returns-then-is_stopped : goal.returns-then-is_stopped
returns-then-is_stopped g c =
    refuses_after g.S.Stream.law (ruled_of g.S.Stream.standing c.args.self.now) (call_of g.L.Lending.text g.L.Lending.bytes c.args.call) (ruled_of g.S.Stream.standing c.args.self.now) (ruled_of g.S.Stream.standing c.keep.new.self) Inner (inl (sym c.if-is_stopped.ensures, refl)) refl
    (kept_as c.args.self.now.machine c.keep.new.self.machine (sieve_view g.S.Stream.standing c.args.self.now.sieve) (sieve_view g.S.Stream.standing c.keep.new.self.sieve) c.args.self.now.why c.keep.new.self.why c.args.self.now.wants c.keep.new.self.wants Inner
    c.keep.ensures.machine (ap (λ sieve. sieve_view g.S.Stream.standing sieve) c.keep.ensures.sieve) c.keep.ensures.why c.keep.ensures.wants) c.keep.ensures.never_falls

pub returns-in-Ok : goal.returns-in-Ok
returns-in-Ok g c = filter_takes_it g.S.Stream.law (ruled_of g.S.Stream.standing c.args.self.now) (call_of g.L.Lending.text g.L.Lending.bytes c.args.call) (ruled_of g.S.Stream.standing c.pass.new.filter) (sym c.if-is_stopped.ensures) c.in-Ok.ensures

pub returns-in-Err : goal.returns-in-Err
returns-in-Err g c =
    let mid = c.pass.new.filter in
    refuses_after g.S.Stream.law (ruled_of g.S.Stream.standing c.args.self.now) (call_of g.L.Lending.text g.L.Lending.bytes c.args.call) (ruled_of g.S.Stream.standing mid) (ruled_of g.S.Stream.standing c.keep-in-Err.new.self) c.in-Err.why
    (cause_from g.S.Stream.law (ruled_of g.S.Stream.standing c.args.self.now) (call_of g.L.Lending.text g.L.Lending.bytes c.args.call) (g.S.Stream.standing mid.sieve.inner) c.in-Err.why (sym c.if-is_stopped.ensures) c.in-Err.ensures.0) c.in-Err.ensures.1
    (kept_as mid.machine c.keep-in-Err.new.self.machine (sieve_view g.S.Stream.standing mid.sieve) (sieve_view g.S.Stream.standing c.keep-in-Err.new.self.sieve) mid.why c.keep-in-Err.new.self.why mid.wants c.keep-in-Err.new.self.wants c.in-Err.why
    c.keep-in-Err.ensures.machine (ap (λ sieve. sieve_view g.S.Stream.standing sieve) c.keep-in-Err.ensures.sieve) c.keep-in-Err.ensures.why c.keep-in-Err.ensures.wants) c.keep-in-Err.ensures.never_falls
