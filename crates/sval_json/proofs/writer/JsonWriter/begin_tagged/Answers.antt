use Rattle.std.proofs.Common.{refl, true, ap, subst}
use Rattle.sval_label.specs.SeenName.{name_of}
use Rattle.sval_core.specs.Trees.{TextKind}
use Rattle.sval_json.specs.declared.style.Variants.{Variants}
use Rattle.sval_json.specs.Actions.{set_empty, ◌then◌, ◌sets◌}
use Rattle.sval_json.specs.Marks.{seen_kind}
use Rattle.sval_json.specs.Shape.{handle}
use Rattle.sval_json.specs.Steps.{refuses_key, name_step, begins_tagged}
use Rattle.sval_json.specs.WriterLaw.{WriterView, Does, HasDone, IsStopped, writer_view}
use Rattle.sval_json.proofs.Doing.{done_then, stopped_later}
use Rattle.sval_json.proofs.Combined.{stops_as, stops_sets, done_sets}
use Rattle.sval_json.proofs.writer.JsonWriter.begin_tagged.Goals as goal

pub returns-in_err-begin_named : goal.returns-in_err-begin_named
returns-in_err-begin_named g c =
    let r = c.from_residual-in_err-begin_named.result in
    let old = writer_view g.K.Sink.told c.args.self.now in
    let mid = writer_view g.K.Sink.told c.refuse_value_in_key.new.self in
    let new = writer_view g.K.Sink.told c.begin_named.new.self in
    let kind = seen_kind c.text_kind-kind.result in
    let name = name_of c.args.tag c.args.label c.args.index in
    let stop = subst (λ (style : Variants). IsStopped (name_step style (handle name)) mid new) (ap (λ v. v.style) c.in_ok-refuse_value_in_key.ensures.view) c.in_err-begin_named.ensures in
    subst (λ (k : TextKind). Does (refuses_key k then name_step old.style (handle name) sets begins_tagged k sets set_empty true) r old new) c.text_kind-kind.ensures
    (stops_as r c.from_residual-in_err-begin_named.ensures.0 (stops_sets (set_empty true) (stops_sets (begins_tagged kind) (stopped_later c.in_ok-refuse_value_in_key.ensures stop))))

pub returns : goal.returns
returns g c =
    let old = writer_view g.K.Sink.told c.args.self.now in
    let mid = writer_view g.K.Sink.told c.refuse_value_in_key.new.self in
    let named = writer_view g.K.Sink.told c.begin_named.new.self in
    let begun = writer_view g.K.Sink.told c.begin_kind.new.self in
    let kind = seen_kind c.text_kind-kind.result in
    let name = name_of c.args.tag c.args.label c.args.index in
    let done = subst (λ (style : Variants). HasDone (name_step style (handle name)) mid named) (ap (λ v. v.style) c.in_ok-refuse_value_in_key.ensures.view) c.in_ok-begin_named.ensures in
    let new : WriterView = record begun { state = set_empty true begun.state } in
    subst (λ (k : TextKind). HasDone (refuses_key k then name_step old.style (handle name) sets begins_tagged k sets set_empty true) old new) c.text_kind-kind.ensures
    (done_sets (set_empty true) (done_sets (begins_tagged kind) (done_then c.in_ok-refuse_value_in_key.ensures done) c.begin_kind.ensures) refl)
