use Rattle.std.proofs.Common.{ap, ◌∙◌}
use Rattle.sval_label.specs.Made.{call_of}
use Rattle.sval_filter.specs.Sieves.{sieve_view}
use Rattle.sval_filter.specs.Layers.{mode_in}
use Rattle.sval_filter.specs.SeenLayers.{is_holding, passes}
use Rattle.sval_filter.proofs.Sieving.{settled}
use Rattle.sval_filter.proofs.sieve.single.Goals as goal

pub returns : goal.returns
returns g c =
    settled g.S.Stream.law (call_of g.L.Lending.text g.L.Lending.bytes c.args.call) (call_of g.L.Lending.text g.L.Lending.bytes c.args.call) (sieve_view g.S.Stream.standing c.args.sieve.now) (sieve_view g.S.Stream.standing c.settle.new.sieve) c.settle.result
    (mode_in c.args.sieve.now.layers.paths c.args.sieve.now.layers.layers) c.is_holding-holds.result c.passes-passes.result
    (c.is_holding-holds.ensures ∙ ap is_holding c.innermost.ensures.mode) (c.passes-passes.ensures ∙ ap passes c.innermost.ensures.mode)
    (rw c.twice-call.ensures at c.settle.ensures)
