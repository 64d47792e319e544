use Rattle.std.proofs.Common.{ap, ◌∙◌, ◌&&◌, not}
use Rattle.sval_label.specs.Made.{call_of}
use Rattle.sval_filter.specs.Sieves.{sieve_view}
use Rattle.sval_filter.specs.Layers.{mode_in, entry_in}
use Rattle.sval_filter.specs.SeenLayers.{seen_fate, is_holding, passes, is_left_out}
use Rattle.sval_filter.proofs.Sieving.{settled_hint}
use Rattle.sval_filter.proofs.sieve.hint.Goals as goal

pub returns : goal.returns
returns g c =
    settled_hint g.S.Stream.law (call_of g.L.Lending.text g.L.Lending.bytes c.args.call) (call_of g.L.Lending.text g.L.Lending.bytes c.args.call) (sieve_view g.S.Stream.standing c.args.sieve.now) (sieve_view g.S.Stream.standing c.settle.new.sieve) c.settle.result
    (mode_in c.args.sieve.now.layers.paths c.args.sieve.now.layers.layers) (entry_in c.args.sieve.now.layers.layers) c.is_holding-holds.result c.passes_hint-passes.result
    (c.is_holding-holds.ensures ∙ ap is_holding c.innermost-layer.ensures.mode)
    (c.passes_hint-passes.ensures ∙ ap (λ mode. passes mode && not (is_left_out (seen_fate c.innermost-layer.result.now.entry))) c.innermost-layer.ensures.mode
    ∙ ap (λ entry. passes (mode_in c.args.sieve.now.layers.paths c.args.sieve.now.layers.layers) && not (is_left_out entry)) c.innermost-layer.ensures.entry)
    (rw c.twice-call.ensures at c.settle.ensures)
