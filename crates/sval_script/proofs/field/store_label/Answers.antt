use Rattle.std.proofs.Common.{◌≡◌, Err, ap, ◌∙◌, option_map}
use Rattle.std.proofs.lemmas.Result.{err_from_is_err_and}
use Rattle.sval_script.specs.Lines.{cut_at, text}
use Rattle.sval_script.specs.Tags.{tag_of}
use Rattle.sval_script.proofs.FieldParts.{tagged_none, tagged_some, labelled, none_from, some_from}
use Rattle.sval_script.specs.declared.field.LineError.TheVariants.{Bad}
use Rattle.sval_script.proofs.field.store_label.Goals as goal

pub returns-in_err-part-clause-bad : goal.returns-in_err-part-clause-bad
returns-in_err-part-clause-bad c _ = tagged_none text labelled (cut_at 58 c.args.field.now) c.split_tag.result c.split_tag.ensures (none_from c.split_tag.result _ c.in_err-part.ensures.value)

pub returns-in_err-len-clause-bad : goal.returns-in_err-len-clause-bad
returns-in_err-len-clause-bad c bad =
    let p = err_from_is_err_and c.from_residual-in_err-len.result c.from_residual-in_err-len.ensures.1 in
    let same : c.in_err-len.field-0.0 ≡ Bad = cc (bad, p.1, p.2) in
    let read = tagged_some text labelled (cut_at 58 c.args.field.now) c.split_tag.result (c.in_ok-part.part, c.in_ok-part.tag) c.split_tag.ensures (some_from c.split_tag.result _ c.in_ok-part.ensures.value) in
    read ∙ ap (option_map (λ t. labelled t (tag_of c.in_ok-part.tag))) (c.in_err-len.ensures.bad (ap Err same))

pub returns-clause-stored : goal.returns-clause-stored
returns-clause-stored c =
    let read = tagged_some text labelled (cut_at 58 c.args.field.now) c.split_tag.result (c.in_ok-part.part, c.in_ok-part.tag) c.split_tag.ensures (some_from c.split_tag.result _ c.in_ok-part.ensures.value) in
    let stored = c.in_ok-len.ensures.stored in
    record {
      bytes = stored.bytes;
      spells = read ∙ ap (option_map (λ t. labelled t (tag_of c.in_ok-part.tag))) stored.spells;
      is_good = stored.is_good;
      stored = stored.stored;
      has_len = stored.has_len;
    }
