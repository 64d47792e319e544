use Rattle.std.proofs.Common.{◌≡◌, Err, ap}
use Rattle.std.proofs.lemmas.Result.{err_from_is_err_and}
use Rattle.sval_script.specs.Lines.{tag_named, index, or_dash}
use Rattle.sval_script.specs.Tags.{tag_of}
use Rattle.sval_script.specs.FieldValues.{label_from, index_from, index_field_of}
use Rattle.sval_script.proofs.FieldsRead.{not_read, is_read, no_label, no_index, name_says}
use Rattle.sval_script.specs.declared.field.LineError.TheVariants.{Bad}
use Rattle.sval_script.proofs.fields.Fields.name.Goals as goal

pub returns-in_err-tag-clause-bad : goal.returns-in_err-tag-clause-bad
returns-in_err-tag-clause-bad c _ next =
    not_read (or_dash tag_named) tag_of c.args.self.now c.tag_or_dash.new.self c.tag_or_dash.result _ _ c.tag_or_dash.ensures c.in_err-tag.ensures.value _

pub returns-in_err-label-clause-bad : goal.returns-in_err-label-clause-bad
returns-in_err-label-clause-bad c bad next =
    let p = err_from_is_err_and c.from_residual-in_err-label.result c.from_residual-in_err-label.ensures.1 in
    let same : c.in_err-label.field-0.0 ≡ Bad = cc (bad, p.1, p.2) in
    no_label c.args.self.now c.tag_or_dash.new.self (tag_of c.in_ok-tag.tag) (is_read (or_dash tag_named) tag_of c.args.self.now c.tag_or_dash.new.self c.tag_or_dash.result _ c.tag_or_dash.ensures c.in_ok-tag.ensures.value) next (c.in_err-label.ensures.bad (ap Err same))

pub returns-in_err-index-clause-bad : goal.returns-in_err-index-clause-bad
returns-in_err-index-clause-bad c _ next =
    no_index c.args.self.now c.tag_or_dash.new.self (tag_of c.in_ok-tag.tag) (is_read (or_dash tag_named) tag_of c.args.self.now c.tag_or_dash.new.self c.tag_or_dash.result _ c.tag_or_dash.ensures c.in_ok-tag.ensures.value) next c.label_or_dash.new.self _ c.in_ok-label.ensures.stored.spells (not_read (or_dash index) index_field_of c.label_or_dash.new.self c.index_or_dash.new.self c.index_or_dash.result _ _ c.index_or_dash.ensures c.in_err-index.ensures.value)

pub returns-clause-stored : goal.returns-clause-stored
returns-clause-stored c =
    let stored = c.in_ok-label.ensures.stored in
    record {
      text = stored.bytes;
      spells = λ next. name_says c.args.self.now c.tag_or_dash.new.self (tag_of c.in_ok-tag.tag) (is_read (or_dash tag_named) tag_of c.args.self.now c.tag_or_dash.new.self c.tag_or_dash.result _ c.tag_or_dash.ensures c.in_ok-tag.ensures.value) next c.label_or_dash.new.self c.index_or_dash.new.self
          (label_from c.in_ok-label.label stored.bytes) (index_from c.in_ok-index.index c.in_ok-index.number) stored.spells (is_read (or_dash index) index_field_of c.label_or_dash.new.self c.index_or_dash.new.self c.index_or_dash.result _ c.index_or_dash.ensures c.in_ok-index.ensures.value);
      is_text = stored.is_good;
      stored = stored.stored;
      has_len = stored.has_len;
    }
