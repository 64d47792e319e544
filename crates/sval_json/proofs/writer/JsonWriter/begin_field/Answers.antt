use Rattle.std.proofs.Common.{Bool, List, ℕ, ◌++◌, ◌∙◌, codes, ap, sym}
use Rattle.sval_json.specs.Json.{comma}
use Rattle.sval_json.specs.Steps.{key_label_text}
use Rattle.sval_json.specs.WriterLaw.{writer_view}
use Rattle.sval_json.proofs.Combined.{field_begun}
use Rattle.sval_json.proofs.writer.JsonWriter.begin_field.Goals as goal

pub returns-then-self : goal.returns-then-self
returns-then-self g c =
    let key = codes "\"" ++ key_label_text c.args.label.now ++ codes "\":" in
    field_begun c.args.label.now _ c.write_between.result (writer_view g.K.Sink.told c.args.self.now) (writer_view g.K.Sink.told c.write_between.new.self)
    (ap (λ (text : List ℕ). codes "\"" ++ text ++ codes "\":") c.label-key.ensures ∙ sym (ap (λ (empty : Bool). comma empty ++ key) c.if-self.true)) c.write_between.ensures
