use Rattle.std.proofs.Common.{ap, ◌∙◌, is_some}
use Rattle.sval_label.specs.Made.{call_of}
use Rattle.sval_buffer.specs.SeenBuffers.{capture_of}
use Rattle.sval_core.specs.Stacks.{below}
use Rattle.sval_buffer.specs.Forest.{empty_forest}
use Rattle.sval_buffer.specs.Capture.{Capture}
use Rattle.sval_filter.specs.Filtering.{mode_in, with_entry, held_label}
use Rattle.sval_filter.specs.SeenLayers.{seen_fate, seen_mode, entry_by}
use Rattle.sval_filter.proofs.Sieving.{key_ends, key_is_refused}
use Rattle.sval_filter.proofs.sieve.end_key.Goals as goal

pub returns-in-Ok : goal.returns-in-Ok
returns-in-Ok g c =
    key_ends g.S.Stream.law c.args.sieve.now.rule (capture_of c.args.sieve.now.held).forest (g.S.Stream.standing c.args.sieve.now.inner) (g.S.Stream.standing c.pass_key.new.inner) c.args.sieve.now.layers c.close.new.self (call_of g.L.Lending.text g.L.Lending.bytes c.args.call) (seen_fate c.in_ok-fate.fate) (entry_by c.args.sieve.now.rule (mode_in c.args.sieve.now.layers.paths (below c.args.sieve.now.layers.layers)) (held_label (capture_of c.args.sieve.now.held).forest))
    (c.in_ok-fate.ensures.fate ∙ ap (λ label. entry_by c.args.sieve.now.rule (seen_mode c.around.result.now) label) (c.text.ensures ∙ c.in_ok-read_text.ensures.label) ∙ ap (λ m. entry_by c.args.sieve.now.rule m (held_label (capture_of c.args.sieve.now.held).forest)) c.around.ensures)
    c.in-Ok.ensures c.close.ensures (capture_of c.clear.new.self).forest (ap (λ (capture : Capture). capture.forest) c.clear.ensures)

pub returns-in-Err : goal.returns-in-Err
returns-in-Err g c =
    key_is_refused g.S.Stream.law c.args.sieve.now.rule (capture_of c.args.sieve.now.held).forest (g.S.Stream.standing c.args.sieve.now.inner) (g.S.Stream.standing c.pass_key.new.inner) c.args.sieve.now.layers c.args.sieve.now.layers (call_of g.L.Lending.text g.L.Lending.bytes c.args.call) (seen_fate c.in_ok-fate.fate) (entry_by c.args.sieve.now.rule (mode_in c.args.sieve.now.layers.paths (below c.args.sieve.now.layers.layers)) (held_label (capture_of c.args.sieve.now.held).forest))
    (c.in_ok-fate.ensures.fate ∙ ap (λ label. entry_by c.args.sieve.now.rule (seen_mode c.around.result.now) label) (c.text.ensures ∙ c.in_ok-read_text.ensures.label) ∙ ap (λ m. entry_by c.args.sieve.now.rule m (held_label (capture_of c.args.sieve.now.held).forest)) c.around.ensures)
    (is_some (held_label (capture_of c.args.sieve.now.held).forest)) c.in-Err.why (record { layers = with_entry (entry_by c.args.sieve.now.rule (mode_in c.args.sieve.now.layers.paths (below c.args.sieve.now.layers.layers)) (held_label (capture_of c.args.sieve.now.held).forest)) (below c.args.sieve.now.layers.layers); held = empty_forest }) c.in-Err.ensures
