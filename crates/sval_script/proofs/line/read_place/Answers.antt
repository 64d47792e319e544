use Rattle.std.proofs.Common.{◌∙◌, refl}
use Rattle.std.proofs.lemmas.Str.{IsUtf8-nil}
use Rattle.sval_label.specs.Calls as call
use Rattle.sval_script.specs.Lines.{complete, field_then, index, tag_named, or_dash}
use Rattle.sval_script.specs.FieldValues.{index_of}
use Rattle.sval_script.specs.Words.{part_call}
use Rattle.sval_script.specs.Tags.{tag_of}
use Rattle.sval_script.proofs.FieldsRead.{not_read, is_read}
use Rattle.sval_script.proofs.LinesMade.{makes_number}
use Rattle.sval_script.proofs.line.read_place.Goals as goal

pub returns-in_err-tag-clause-bad : goal.returns-in_err-tag-clause-bad
returns-in_err-tag-clause-bad c = λ _. not_read (or_dash tag_named) tag_of c.args.fields.now c.tag_or_dash.new.self c.tag_or_dash.result _ _ c.tag_or_dash.ensures c.in_err-tag.ensures.value (λ t. field_then index (λ i. complete (part_call c.args.side (call.Place t i))))

pub returns-in_err-index-clause-bad : goal.returns-in_err-index-clause-bad
returns-in_err-index-clause-bad c = λ _.
    is_read (or_dash tag_named) tag_of c.args.fields.now c.tag_or_dash.new.self c.tag_or_dash.result _ c.tag_or_dash.ensures c.in_ok-tag.ensures.value (λ t. field_then index (λ i. complete (part_call c.args.side (call.Place t i))))
    ∙ not_read index index_of c.tag_or_dash.new.self c.index.new.self c.index.result _ _ c.index.ensures c.in_err-index.ensures.value _

pub returns-clause-made : goal.returns-clause-made
returns-clause-made c =
    makes_number _ _ _ c.in_ok-index.index.number _ _ _
    (is_read (or_dash tag_named) tag_of c.args.fields.now c.tag_or_dash.new.self c.tag_or_dash.result _ c.tag_or_dash.ensures c.in_ok-tag.ensures.value (λ t. field_then index (λ i. complete (part_call c.args.side (call.Place t i))))
    ∙ is_read index index_of c.tag_or_dash.new.self c.index.new.self c.index.result _ c.index.ensures c.in_ok-index.ensures.value (λ i. complete (part_call c.args.side (call.Place (tag_of c.in_ok-tag.tag) i)))) c.in_ok-push.ensures.bytes c.in_ok-push.ensures.numbers refl refl IsUtf8-nil
