use Rattle.std.proofs.lemmas.Result.{err_from_is_err_and}
use Rattle.sval_relay.proofs.ServeAnswers.{made_told, made_stops}
use Rattle.sval_relay.proofs.running.serve_made.Goals as goal

pub returns-in_err-relay_made : goal.returns-in_err-relay_made
returns-in_err-relay_made g c =
    let p = err_from_is_err_and c.from_residual.result c.from_residual.ensures.1 in
    rw (p.1, p.2) (made_stops g.K.Sink.told c.args.count c.args.out.now c.relay_made.new.out c.in_err-relay_made.field-0.0 c.in_err-relay_made.ensures.tells)

pub returns : goal.returns
returns g c = made_told g.K.Sink.told c.args.count c.args.out.now c.relay_made.new.out c.in_ok-relay_made.ensures.tells
