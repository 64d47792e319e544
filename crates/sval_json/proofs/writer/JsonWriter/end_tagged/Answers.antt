use Rattle.std.proofs.Common.{ap, subst, Bool}
use Rattle.sval_label.specs.SeenName.{name_of}
use Rattle.sval_core.specs.Trees.{TextKind}
use Rattle.sval_json.specs.Actions.{set_named, when, ◌then◌, ◌sets◌}
use Rattle.sval_json.specs.Steps.{ends_tagged, standalone_step, after_name}
use Rattle.sval_json.specs.WriterLaw.{WriterView, Does, HasDone, writer_view}
use Rattle.sval_json.proofs.Doing.{done_then, stopped_first, stopped_later}
use Rattle.sval_json.proofs.Combined.{stops_as, stops_sets, done_sets}
use Rattle.sval_json.proofs.writer.JsonWriter.end_tagged.Goals as goal

pub returns-in_err-end_kind : goal.returns-in_err-end_kind
returns-in_err-end_kind g c =
    let r = c.from_residual.result in
    let name = name_of c.args.tag c.args.label c.args.index in
    subst (λ (k : TextKind). Does (ends_tagged k then when (λ state. state.empty) (standalone_step name) sets after_name name) r
    (writer_view g.K.Sink.told c.args.self.now) (writer_view g.K.Sink.told c.end_kind.new.self)) c.text_kind.ensures
    (stops_as r c.from_residual.ensures.0 (stops_sets (after_name name) (stopped_first (when (λ state. state.empty) (standalone_step name)) c.in_err-end_kind.ensures)))

pub returns-in_err-write_name_if_empty : goal.returns-in_err-write_name_if_empty
returns-in_err-write_name_if_empty g c =
    let r = c.from_residual-in_err-write_name_if_empty.result in
    let name = name_of c.args.tag c.args.label c.args.index in
    subst (λ (k : TextKind). Does (ends_tagged k then when (λ state. state.empty) (standalone_step name) sets after_name name) r
    (writer_view g.K.Sink.told c.args.self.now) (writer_view g.K.Sink.told c.write_name_if_empty.new.self)) c.text_kind.ensures
    (stops_as r c.from_residual-in_err-write_name_if_empty.ensures.0 (stops_sets (after_name name) (stopped_later c.in_ok-end_kind.ensures c.in_err-write_name_if_empty.ensures)))

pub returns : goal.returns
returns g c =
    let name = name_of c.args.tag c.args.label c.args.index in
    let mid = writer_view g.K.Sink.told c.write_name_if_empty.new.self in
    subst (λ (k : TextKind). HasDone (ends_tagged k then when (λ state. state.empty) (standalone_step name) sets after_name name)
    (writer_view g.K.Sink.told c.args.self.now) (let v : WriterView = record mid { state = set_named c.has_handle-self.result mid.state } in v)) c.text_kind.ensures
    (done_sets (after_name name) (done_then c.in_ok-end_kind.ensures c.in_ok-write_name_if_empty.ensures)
    (ap (λ (named : Bool). let v : WriterView = record mid { state = set_named named mid.state } in v) c.has_handle-self.ensures))
