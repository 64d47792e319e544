use Rattle.std.proofs.Common.{arith, ◌≡◌, ◌∷◌, [], Err, ap, ◌∙◌, refl}
use Rattle.std.proofs.lemmas.Result.{err_from_is_err_and}
use Rattle.sval_label.specs.Calls as call
use Rattle.sval_script.specs.Lines.{complete, field_then, label, index, tag_named, or_dash}
use Rattle.sval_script.specs.FieldValues.{made_label, index_of}
use Rattle.sval_script.specs.Words.{part_call}
use Rattle.sval_script.specs.Tags.{tag_of}
use Rattle.sval_script.specs.declared.field.LineError.TheVariants.{Bad}
use Rattle.sval_script.proofs.FieldsRead.{not_read, is_read}
use Rattle.sval_script.proofs.line.read_field_place.Goals as goal

pub returns-in_err-tag-clause-bad : goal.returns-in_err-tag-clause-bad
returns-in_err-tag-clause-bad c = λ _.
    not_read (or_dash tag_named) tag_of c.args.fields.now c.tag_or_dash.new.self c.tag_or_dash.result _ _ c.tag_or_dash.ensures c.in_err-tag.ensures.value (λ t. field_then label (λ l. field_then index (λ i. complete (part_call c.args.side (call.FieldPlace t l i)))))

pub returns-in_err-label-clause-bad : goal.returns-in_err-label-clause-bad
returns-in_err-label-clause-bad c bad =
    let p = err_from_is_err_and c.from_residual-in_err-label.result c.from_residual-in_err-label.ensures.1 in
    let same : c.in_err-label.field-0.0 ≡ Bad = cc (bad, p.1, p.2) in
    is_read (or_dash tag_named) tag_of c.args.fields.now c.tag_or_dash.new.self c.tag_or_dash.result _ c.tag_or_dash.ensures c.in_ok-tag.ensures.value (λ t. field_then label (λ l. field_then index (λ i. complete (part_call c.args.side (call.FieldPlace t l i)))))
    ∙ c.in_err-label.ensures.bad (ap Err same) _

pub returns-in_err-index-clause-bad : goal.returns-in_err-index-clause-bad
returns-in_err-index-clause-bad c = λ _.
    is_read (or_dash tag_named) tag_of c.args.fields.now c.tag_or_dash.new.self c.tag_or_dash.result _ c.tag_or_dash.ensures c.in_ok-tag.ensures.value (λ t. field_then label (λ l. field_then index (λ i. complete (part_call c.args.side (call.FieldPlace t l i)))))
    ∙ c.in_ok-label.ensures.stored.spells (λ l. field_then index (λ i. complete (part_call c.args.side (call.FieldPlace (tag_of c.in_ok-tag.tag) l i)))) ∙ not_read index index_of c.label.new.self c.index.new.self c.index.result _ _ c.index.ensures c.in_err-index.ensures.value _

pub returns-clause-made : goal.returns-clause-made
returns-clause-made c =
    let s = c.in_ok-label.ensures.stored in
    record {
      bytes = s.bytes;
      numbers = c.from.result ∷ c.in_ok-index.index.number ∷ [];
      spells = is_read (or_dash tag_named) tag_of c.args.fields.now c.tag_or_dash.new.self c.tag_or_dash.result _ c.tag_or_dash.ensures c.in_ok-tag.ensures.value (λ t. field_then label (λ l. field_then index (λ i. complete (part_call c.args.side (call.FieldPlace t l i)))))
          ∙ s.spells (λ l. field_then index (λ i. complete (part_call c.args.side (call.FieldPlace (tag_of c.in_ok-tag.tag) l i))))
          ∙ is_read index index_of c.label.new.self c.index.new.self c.index.result _ c.index.ensures c.in_ok-index.ensures.value (λ i. complete (part_call c.args.side (call.FieldPlace (tag_of c.in_ok-tag.tag) (made_label c.in_ok-label.label.tag s.bytes) i)));
      puts = record {
        has_text = s.is_good;
        bytes_stored = c.in_ok-push_two.ensures.bytes ∙ s.stored;
        numbers_stored = c.in_ok-push_two.ensures.numbers;
        has_len = omega (arith, s.has_len, c.from.ensures);
        has_count = refl;
      };
    }
