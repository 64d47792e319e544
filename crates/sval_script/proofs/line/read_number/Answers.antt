use Rattle.std.specs.Prelude.{◌≡◌}
use Rattle.sval_label.specs.Calls as call
use Rattle.sval_label.specs.Grouped.{int_number, int_type}
use Rattle.sval_script.specs.Lines.{complete, whole_number_of}
use Rattle.sval_script.specs.Words.{type_of}
use Rattle.sval_script.proofs.FieldsRead.{not_read, is_read, holds_read}
use Rattle.sval_script.proofs.LinesMade.{number_made}
use Rattle.sval_script.proofs.line.read_number.Goals as goal

pub returns-in_err-number-clause-bad : goal.returns-in_err-number-clause-bad
returns-in_err-number-clause-bad c = λ _. not_read (whole_number_of (type_of c.args.kind)) int_number c.args.fields.now c.number.new.self c.number.result _ _ c.number.ensures.number c.in_err-number.ensures.value (λ z. complete (call.Int (type_of c.args.kind) z))

pub returns-clause-made : goal.returns-clause-made
returns-clause-made c = number_made c.args.kind _ _ c.in_ok-number.number _ _ _ (is_read (whole_number_of (type_of c.args.kind)) int_number c.args.fields.now c.number.new.self c.number.result _ c.number.ensures.number c.in_ok-number.ensures.value) (holds_read (λ n. int_type n ≡ type_of c.args.kind) c.number.result _ c.number.ensures.of_type c.in_ok-number.ensures.value) c.put_number.ensures.made
