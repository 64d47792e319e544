use Rattle.std.proofs.Common.{refl}
use Rattle.std.proofs.lemmas.Str.{IsUtf8-nil}
use Rattle.sval_label.specs.Calls as call
use Rattle.sval_script.specs.Lines.{complete, truth}
use Rattle.sval_script.proofs.FieldsRead.{not_read, is_read}
use Rattle.sval_script.proofs.LinesMade.{makes_all}
use Rattle.sval_script.proofs.line.read_truth.Goals as goal

pub returns-in_err-value-clause-bad : goal.returns-in_err-value-clause-bad
returns-in_err-value-clause-bad c = λ _. not_read truth (λ b. b) c.args.fields.now c.truth.new.self c.truth.result _ _ c.truth.ensures c.in_err-value.ensures.value (λ b. complete (call.Truth b))

pub returns-clause-made : goal.returns-clause-made
returns-clause-made c = makes_all _ _ _ _ _ (is_read truth (λ b. b) c.args.fields.now c.truth.new.self c.truth.result _ c.truth.ensures c.in_ok-value.ensures.value (λ b. complete (call.Truth b))) refl refl IsUtf8-nil
