use Rattle.std.proofs.Common.{sym, subst, Some}
use Rattle.sval_json.specs.Steps.{opens_handle}
use Rattle.sval_json.specs.WriterLaw.{Does, writer_view}
use Rattle.sval_json.specs.declared.style.Variants.{Variants}
use Rattle.sval_json.proofs.writer.JsonWriter.open_variant.Goals as goal

pub returns-in-Inside : goal.returns-in-Inside
returns-in-Inside g c =
    subst (λ (style : Variants). Does (opens_handle style (Some c.args.handle.now)) c.open_between.result (writer_view g.K.Sink.told c.args.self.now) (writer_view g.K.Sink.told c.open_between.new.self))
    (sym c.in-Inside.is) c.open_between.ensures

pub returns-in-Beside : goal.returns-in-Beside
returns-in-Beside g c =
    subst (λ (style : Variants). Does (opens_handle style (Some c.args.handle.now)) c.open_between-in-Beside.result (writer_view g.K.Sink.told c.args.self.now) (writer_view g.K.Sink.told c.open_between-in-Beside.new.self))
    (sym c.in-Beside.is) c.open_between-in-Beside.ensures
