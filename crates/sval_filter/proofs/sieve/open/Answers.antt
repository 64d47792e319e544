use Rattle.std.proofs.lemmas.Result.{err_from_is_err_and}
use Rattle.std.proofs.Common.{refl, ap, ◌∙◌}
use Rattle.sval_label.specs.Made.{call_of}
use Rattle.sval_buffer.specs.SeenBuffers.{capture_of}
use Rattle.sval_core.specs.Stacks.{below}
use Rattle.sval_filter.specs.Sieves.{sieve_view}
use Rattle.sval_filter.specs.Layers.{mode_in}
use Rattle.sval_filter.specs.SeenLayers.{seen_mode, is_holding}
use Rattle.sval_filter.proofs.Sieving.{opens_ok, opens_err, view_by, other_layers}
use Rattle.sval_filter.proofs.sieve.open.Goals as goal

pub returns-in_err-push : goal.returns-in_err-push
returns-in_err-push g c =
    let e = err_from_is_err_and c.from_residual.result c.from_residual.ensures.1 in
    rw (e.1, e.2) (refl, ap (view_by c.args.sieve.now.rule (capture_of c.args.sieve.now.held).forest (g.S.Stream.standing c.args.sieve.now.inner)) c.in_err-push.ensures)

pub returns-in-Ok : goal.returns-in-Ok
returns-in-Ok g c = opens_ok g.S.Stream.law (seen_mode c.args.mode) (mode_in c.args.sieve.now.layers.paths c.args.sieve.now.layers.layers) (call_of g.L.Lending.text g.L.Lending.bytes c.args.call) (call_of g.L.Lending.text g.L.Lending.bytes c.args.relayed) (sieve_view g.S.Stream.standing c.args.sieve.now) (view_by c.args.sieve.now.rule (capture_of c.args.sieve.now.held).forest (g.S.Stream.standing c.args.sieve.now.inner) c.push.new.self) c.is_holding-holds.result c.passes-passes.result refl (ap (view_by c.args.sieve.now.rule (capture_of c.args.sieve.now.held).forest (g.S.Stream.standing c.args.sieve.now.inner)) c.in_ok-push.ensures) (c.is_holding-holds.ensures ∙ ap is_holding c.innermost.ensures.mode) c.passes-passes.ensures (sieve_view g.S.Stream.standing c.settle.new.sieve) c.in-Ok.ensures

pub returns-in-Err : goal.returns-in-Err
returns-in-Err g c =
    let left = c.settle.new.sieve in
    opens_err g.S.Stream.law (seen_mode c.args.mode) (mode_in c.args.sieve.now.layers.paths c.args.sieve.now.layers.layers) (call_of g.L.Lending.text g.L.Lending.bytes c.args.call) (call_of g.L.Lending.text g.L.Lending.bytes c.args.relayed) (sieve_view g.S.Stream.standing c.args.sieve.now) (view_by c.args.sieve.now.rule (capture_of c.args.sieve.now.held).forest (g.S.Stream.standing c.args.sieve.now.inner) c.push.new.self) c.is_holding-holds.result c.passes-passes.result refl (ap (view_by c.args.sieve.now.rule (capture_of c.args.sieve.now.held).forest (g.S.Stream.standing c.args.sieve.now.inner)) c.in_ok-push.ensures) (c.is_holding-holds.ensures ∙ ap is_holding c.innermost.ensures.mode) c.passes-passes.ensures c.in-Err.why (sieve_view g.S.Stream.standing left) (view_by left.rule (capture_of left.held).forest (g.S.Stream.standing left.inner) c.pop.new.self) c.in-Err.ensures
    (other_layers left.rule (capture_of left.held).forest (g.S.Stream.standing left.inner) left.layers c.pop.new.self (below left.layers.layers) c.pop.ensures)
