use Rattle.std.proofs.Common.{◌≡◌, [], Err, ap, ◌∙◌, sym, append-nil, refl}
use Rattle.std.proofs.lemmas.Result.{err_from_is_err_and}
use Rattle.sval_label.specs.Calls as call
use Rattle.sval_script.specs.Lines.{complete, field_then, label, tag_named, or_dash}
use Rattle.sval_script.specs.Words.{part_call}
use Rattle.sval_script.specs.Tags.{tag_of}
use Rattle.sval_script.specs.declared.field.LineError.TheVariants.{Bad}
use Rattle.sval_script.proofs.FieldsRead.{not_read, is_read}
use Rattle.sval_script.proofs.line.read_field.Goals as goal

pub returns-in_err-tag-clause-bad : goal.returns-in_err-tag-clause-bad
returns-in_err-tag-clause-bad c = λ _. not_read (or_dash tag_named) tag_of c.args.fields.now c.tag_or_dash.new.self c.tag_or_dash.result _ _ c.tag_or_dash.ensures c.in_err-tag.ensures.value (λ t. field_then label (λ l. complete (part_call c.args.side (call.Field t l))))

pub returns-in_err-label-clause-bad : goal.returns-in_err-label-clause-bad
returns-in_err-label-clause-bad c bad =
    let p = err_from_is_err_and c.from_residual-in_err-label.result c.from_residual-in_err-label.ensures.1 in
    let same : c.in_err-label.field-0.0 ≡ Bad = cc (bad, p.1, p.2) in
    is_read (or_dash tag_named) tag_of c.args.fields.now c.tag_or_dash.new.self c.tag_or_dash.result _ c.tag_or_dash.ensures c.in_ok-tag.ensures.value (λ t. field_then label (λ l. complete (part_call c.args.side (call.Field t l)))) ∙ c.in_err-label.ensures.bad (ap Err same) _

pub returns-clause-made : goal.returns-clause-made
returns-clause-made c =
    let s = c.in_ok-label.ensures.stored in
    record {
      bytes = s.bytes;
      numbers = [];
      spells = is_read (or_dash tag_named) tag_of c.args.fields.now c.tag_or_dash.new.self c.tag_or_dash.result _ c.tag_or_dash.ensures c.in_ok-tag.ensures.value (λ t. field_then label (λ l. complete (part_call c.args.side (call.Field t l))))
          ∙ s.spells (λ l. complete (part_call c.args.side (call.Field (tag_of c.in_ok-tag.tag) l)));
      puts = record {
        has_text = s.is_good;
        bytes_stored = s.stored;
        numbers_stored = sym (append-nil c.args.store.now.numbers.items);
        has_len = s.has_len;
        has_count = refl;
      };
    }
