use Rattle.sval_json.specs.Actions.{write}
use Rattle.sval_json.proofs.Doing.{done_then, stopped_first, stopped_later}
use Rattle.sval_json.proofs.Combined.{does_then, stops_as}
use Rattle.sval_json.proofs.writer.JsonWriter.write_each.Goals as goal

pub returns-in_err-write_quoted : goal.returns-in_err-write_quoted
returns-in_err-write_quoted g c =
    stops_as c.from_residual-in_err-write_quoted.result c.from_residual-in_err-write_quoted.ensures.0
    (stopped_first (write c.args.after.now) (stopped_later c.in_ok-write.ensures c.in_err-write_quoted.ensures))

pub returns : goal.returns
returns g c = does_then _ (write c.args.after.now) c.write-2.result _ _ (done_then c.in_ok-write.ensures c.in_ok-write_quoted.ensures) c.write-2.ensures
