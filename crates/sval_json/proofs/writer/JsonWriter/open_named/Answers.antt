use Rattle.sval_json.specs.Steps.{opens}
use Rattle.sval_json.proofs.Doing.{stopped_first}
use Rattle.sval_json.proofs.Combined.{does_then, stops_as}
use Rattle.sval_json.proofs.writer.JsonWriter.open_named.Goals as goal

pub returns-in_err-begin_named : goal.returns-in_err-begin_named
returns-in_err-begin_named g c = stops_as c.from_residual.result c.from_residual.ensures.0 (stopped_first (opens c.args.bracket.now) c.in_err-begin_named.ensures)

pub returns : goal.returns
returns g c = does_then _ _ c.open.result _ _ c.in_ok-begin_named.ensures c.open.ensures
