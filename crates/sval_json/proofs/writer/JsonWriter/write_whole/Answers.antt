use Rattle.sval_json.specs.Steps.{fragment, quote_if_quoted}
use Rattle.sval_json.proofs.Doing.{done_then, stopped_first, stopped_later}
use Rattle.sval_json.proofs.Combined.{does_then, stops_as}
use Rattle.sval_json.proofs.writer.JsonWriter.write_whole.Goals as goal

pub returns-in_err-begin_text : goal.returns-in_err-begin_text
returns-in_err-begin_text g c =
    stops_as c.from_residual.result c.from_residual.ensures.0
    (stopped_first quote_if_quoted (stopped_first (fragment c.args.text.now) c.in_err-begin_text.ensures))

pub returns-in_err-write_fragment : goal.returns-in_err-write_fragment
returns-in_err-write_fragment g c =
    stops_as c.from_residual-in_err-write_fragment.result c.from_residual-in_err-write_fragment.ensures.0
    (stopped_first quote_if_quoted (stopped_later c.in_ok-begin_text.ensures c.in_err-write_fragment.ensures))

pub returns : goal.returns
returns g c = does_then _ _ c.quote.result _ _ (done_then c.in_ok-begin_text.ensures c.in_ok-write_fragment.ensures) c.quote.ensures
