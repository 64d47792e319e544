use Rattle.std.proofs.Common.{codes}
use Rattle.std.proofs.lemmas.Result.{err_from_is_err_and}
use Rattle.sval_json.specs.Steps.{written}
use Rattle.event_log.specs.Logs.{event_calls, event_line}
use Rattle.event_log.proofs.Joined.{stops_first, goes_on}
use Rattle.event_log.proofs.lines.write_line.Goals as goal

pub returns-in_err-write_json : goal.returns-in_err-write_json
unfolding event_line
returns-in_err-write_json g c =
    let e = err_from_is_err_and c.from_residual.result c.from_residual.ensures.1 in
    rw (e.1, e.2) (stops_first (written (event_calls c.args.event.now)).written (codes "\n") c.in_err-write_json.ensures)

pub returns : goal.returns
unfolding event_line
returns g c = goes_on (g.K.Sink.told c.write_all.new.sink) c.write_all.result (written (event_calls c.args.event.now)).written (codes "\n") c.in_ok-write_json.ensures c.write_all.ensures.writes
