use Rattle.std.proofs.Common.{refl}
use Rattle.std.proofs.lemmas.Str.{IsUtf8-nil}
use Rattle.sval_label.specs.Calls as call
use Rattle.sval_script.specs.Lines.{complete, tag_named}
use Rattle.sval_script.specs.Tags.{tag_text}
use Rattle.sval_script.proofs.FieldsRead.{not_read, is_read}
use Rattle.sval_script.proofs.LinesMade.{makes_all}
use Rattle.sval_script.proofs.line.read_tag_hint.Goals as goal

pub returns-in_err-tag-clause-bad : goal.returns-in_err-tag-clause-bad
returns-in_err-tag-clause-bad c = λ _. not_read tag_named tag_text c.args.fields.now c.tag.new.self c.tag.result _ _ c.tag.ensures c.in_err-tag.ensures.value (λ t. complete (call.TagHint t))

pub returns-clause-made : goal.returns-clause-made
returns-clause-made c = makes_all _ _ _ _ _ (is_read tag_named tag_text c.args.fields.now c.tag.new.self c.tag.result _ c.tag.ensures c.in_ok-tag.ensures.value (λ t. complete (call.TagHint t))) refl refl IsUtf8-nil
