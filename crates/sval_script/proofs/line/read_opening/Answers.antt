use Rattle.std.proofs.Common.{ap, ◌∙◌, refl}
use Rattle.std.proofs.lemmas.Str.{IsUtf8-nil}
use Rattle.sval_script.specs.Lines.{complete, size}
use Rattle.sval_script.specs.NextFields.{call_before}
use Rattle.sval_script.specs.Words.{opening_call}
use Rattle.sval_script.proofs.FieldsRead.{not_read, is_read}
use Rattle.sval_script.proofs.LinesMade.{makes_all, makes_number}
use Rattle.sval_script.proofs.line.read_opening.Goals as goal

pub returns-in_err-size-clause-bad : goal.returns-in_err-size-clause-bad
returns-in_err-size-clause-bad c = λ _. not_read size (λ n. n) c.args.fields.now c.size.new.self c.size.result _ _ c.size.ensures c.in_err-size.ensures.value (λ n. complete (opening_call c.args.opening n))

pub returns-in_default-clause-made : goal.returns-in_default-clause-made
returns-in_default-clause-made c =
    makes_all _ _ _ _ _
    (is_read size (λ n. n) c.args.fields.now c.size.new.self c.size.result _ c.size.ensures c.in_ok-size.ensures.value (λ n. complete (opening_call c.args.opening n))
    ∙ ap (λ n. call_before (complete (opening_call c.args.opening n)) c.size.new.self) c.in_default.is) refl refl IsUtf8-nil

pub returns-clause-made : goal.returns-clause-made
returns-clause-made c =
    makes_number _ _ _ c.in-Some.size _ _ _
    (is_read size (λ n. n) c.args.fields.now c.size.new.self c.size.result _ c.size.ensures c.in_ok-size.ensures.value (λ n. complete (opening_call c.args.opening n))
    ∙ ap (λ n. call_before (complete (opening_call c.args.opening n)) c.size.new.self) c.in-Some.is) c.in_ok-push.ensures.bytes c.in_ok-push.ensures.numbers refl refl IsUtf8-nil
