use Rattle.std.proofs.Common.{ap, Bool, codes}
use Rattle.sval_label.specs.SeenName.{name_of}
use Rattle.sval_json.specs.Actions.{set_named, when}
use Rattle.sval_json.specs.Steps.{after_name, closes}
use Rattle.sval_json.specs.WriterLaw.{WriterView, writer_view}
use Rattle.sval_json.proofs.Doing.{done_then, stopped_first, stopped_later}
use Rattle.sval_json.proofs.Combined.{stops_as, stops_sets, done_sets}
use Rattle.sval_json.proofs.writer.JsonWriter.end_enum.Goals as goal

pub returns-in_err-write_name_if_empty : goal.returns-in_err-write_name_if_empty
returns-in_err-write_name_if_empty g c =
    stops_as c.from_residual.result c.from_residual.ensures.0
    (stops_sets (after_name (name_of c.args.tag c.args.label c.args.index)) (stopped_first (when (λ state. state.named) (closes (codes "}"))) c.in_err-write_name_if_empty.ensures))

pub returns-in_err-close_variant : goal.returns-in_err-close_variant
returns-in_err-close_variant g c =
    stops_as c.from_residual-in_err-close_variant.result c.from_residual-in_err-close_variant.ensures.0
    (stops_sets (after_name (name_of c.args.tag c.args.label c.args.index)) (stopped_later c.in_ok-write_name_if_empty.ensures c.in_err-close_variant.ensures))

pub returns : goal.returns
returns g c =
    done_sets (after_name (name_of c.args.tag c.args.label c.args.index)) (done_then c.in_ok-write_name_if_empty.ensures c.in_ok-close_variant.ensures)
    (ap (λ (named : Bool). let mid = writer_view g.K.Sink.told c.close_variant.new.self in let v : WriterView = record mid { state = set_named named mid.state } in v) c.has_handle-self.ensures)
