use Rattle.std.proofs.Common.{ap, ◌∙◌}
use Rattle.sval_label.specs.Made.{call_of}
use Rattle.sval_label.specs.Grouped.{seen_slot}
use Rattle.sval_filter.specs.Sieves.{sieve_view}
use Rattle.sval_filter.specs.Layers.{mode_in, mode_of_part}
use Rattle.sval_filter.specs.SeenLayers.{seen_mode, seen_fate}
use Rattle.sval_filter.proofs.Sieving.{begins_part}
use Rattle.sval_filter.proofs.sieve.begin_part.Goals as goal

pub returns-in-Ok : goal.returns-in-Ok
returns-in-Ok g c =
    begins_part g.S.Stream.law (sieve_view g.S.Stream.standing c.args.sieve.now) (sieve_view g.S.Stream.standing c.open.new.sieve) (call_of g.L.Lending.text g.L.Lending.bytes c.args.call) (call_of g.L.Lending.text g.L.Lending.bytes c.args.call) (seen_mode c.in-Ok.mode) c.open.result
    (seen_slot c.args.slot) (c.in-Ok.ensures ∙ ap (λ m. mode_of_part c.args.sieve.now.rule m (seen_fate c.innermost.result.now.entry) (seen_slot c.args.slot)) c.innermost.ensures.mode
    ∙ ap (λ entry. mode_of_part c.args.sieve.now.rule (mode_in c.args.sieve.now.layers.paths c.args.sieve.now.layers.layers) entry (seen_slot c.args.slot)) c.innermost.ensures.entry) (rw c.twice-call.ensures at c.open.ensures)
