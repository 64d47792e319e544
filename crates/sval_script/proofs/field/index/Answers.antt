use Rattle.std.proofs.Common.{sym, ap, ◌∙◌, option_map}
use Rattle.sval_script.specs.Lines.{cut_at}
use Rattle.sval_script.specs.Tags.{tag_of}
use Rattle.sval_script.specs.FieldValues.{index_number}
use Rattle.sval_script.proofs.FieldParts.{tagged_none, tagged_some, index_text, indexed}
use Rattle.sval_script.proofs.field.index.Goals as goal

pub returns-in_err-part : goal.returns-in_err-part
returns-in_err-part c = rw c.from_residual.ensures (sym (tagged_none index_text indexed (cut_at 58 c.args.field.now) c.split_tag.result c.split_tag.ensures c.in_err-part.was))

pub returns-in_err-sign : goal.returns-in_err-sign
returns-in_err-sign c =
    let read = tagged_some index_text indexed (cut_at 58 c.args.field.now) c.split_tag.result (c.in_ok-part.part, c.in_ok-part.tag) c.split_tag.ensures c.in_ok-part.was in
    let number = sym c.index_of_digits.ensures ∙ ap (option_map index_number) c.in_err-sign.was in
    rw c.from_residual-in_err-sign.ensures (sym (read ∙ ap (option_map (λ x. indexed x (tag_of c.in_ok-part.tag))) number))

pub returns : goal.returns
returns c =
    let read = tagged_some index_text indexed (cut_at 58 c.args.field.now) c.split_tag.result (c.in_ok-part.part, c.in_ok-part.tag) c.split_tag.ensures c.in_ok-part.was in
    let number = sym c.index_of_digits.ensures ∙ ap (option_map index_number) c.in_ok-sign.was in
    sym (read ∙ ap (option_map (λ x. indexed x (tag_of c.in_ok-part.tag))) number)
