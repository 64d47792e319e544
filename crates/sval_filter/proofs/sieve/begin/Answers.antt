use Rattle.std.proofs.Common.{◌∙◌}
use Rattle.sval_label.specs.Made.{call_of}
use Rattle.sval_filter.specs.Sieves.{sieve_view}
use Rattle.sval_filter.specs.SeenLayers.{seen_mode}
use Rattle.sval_filter.proofs.Sieving.{begins}
use Rattle.sval_filter.proofs.sieve.begin.Goals as goal

pub returns-in-Ok : goal.returns-in-Ok
returns-in-Ok g c =
    begins g.S.Stream.law (sieve_view g.S.Stream.standing c.args.sieve.now) (sieve_view g.S.Stream.standing c.open.new.sieve) (call_of g.L.Lending.text g.L.Lending.bytes c.args.call) (call_of g.L.Lending.text g.L.Lending.bytes c.args.relayed) (seen_mode c.in-Ok.mode) c.open.result
    (c.in-Ok.ensures ∙ c.innermost.ensures.mode) c.open.ensures
