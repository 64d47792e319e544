use Rattle.sval_label.specs.Made.{call_of}
use Rattle.sval_buffer.specs.SeenBuffers.{capture_of}
use Rattle.sval_core.specs.Stacks.{below}
use Rattle.sval_filter.specs.Sieves.{sieve_view}
use Rattle.sval_filter.specs.Filtering.{mode_in, passed, held_after, key_may_grow}
use Rattle.std.proofs.Common.{[], ◌∷◌}
use Rattle.sval_filter.proofs.Sieving.{closes, refused_too, view_by, other_layers}
use Rattle.sval_filter.proofs.sieve.end.Goals as goal

pub returns-in-Ok : goal.returns-in-Ok
returns-in-Ok g c =
    let mid = c.single.new.sieve in
    closes g.S.Stream.law (sieve_view g.S.Stream.standing c.args.sieve.now) (sieve_view g.S.Stream.standing mid) (view_by mid.rule (capture_of mid.held).forest (g.S.Stream.standing mid.inner) c.pop.new.self)
    (passed (mode_in c.args.sieve.now.layers.paths c.args.sieve.now.layers.layers) ((call_of g.L.Lending.text g.L.Lending.bytes c.args.call) ∷ [])) (held_after (mode_in c.args.sieve.now.layers.paths c.args.sieve.now.layers.layers) (capture_of c.args.sieve.now.held).forest (call_of g.L.Lending.text g.L.Lending.bytes c.args.call)) (key_may_grow (mode_in c.args.sieve.now.layers.paths c.args.sieve.now.layers.layers) (capture_of c.args.sieve.now.held).forest (call_of g.L.Lending.text g.L.Lending.bytes c.args.call)) (λ layers. below layers) c.in-Ok.ensures
    (other_layers mid.rule (capture_of mid.held).forest (g.S.Stream.standing mid.inner) mid.layers c.pop.new.self (below mid.layers.layers) c.pop.ensures)

pub returns-in-Err : goal.returns-in-Err
returns-in-Err g c =
    refused_too g.S.Stream.law (sieve_view g.S.Stream.standing c.args.sieve.now) (sieve_view g.S.Stream.standing c.args.sieve.now) (sieve_view g.S.Stream.standing c.single.new.sieve) (passed (mode_in c.args.sieve.now.layers.paths c.args.sieve.now.layers.layers) ((call_of g.L.Lending.text g.L.Lending.bytes c.args.call) ∷ []))
    (held_after (mode_in c.args.sieve.now.layers.paths c.args.sieve.now.layers.layers) (capture_of c.args.sieve.now.held).forest (call_of g.L.Lending.text g.L.Lending.bytes c.args.call)) (key_may_grow (mode_in c.args.sieve.now.layers.paths c.args.sieve.now.layers.layers) (capture_of c.args.sieve.now.held).forest (call_of g.L.Lending.text g.L.Lending.bytes c.args.call))
    (record { layers = c.args.sieve.now.layers.layers; held = (held_after (mode_in c.args.sieve.now.layers.paths c.args.sieve.now.layers.layers) (capture_of c.args.sieve.now.held).forest (call_of g.L.Lending.text g.L.Lending.bytes c.args.call)) }) (record { layers = below c.args.sieve.now.layers.layers; held = (held_after (mode_in c.args.sieve.now.layers.paths c.args.sieve.now.layers.layers) (capture_of c.args.sieve.now.held).forest (call_of g.L.Lending.text g.L.Lending.bytes c.args.call)) }) c.in-Err.why c.in-Err.ensures
