-- A value has one answer that is due.
use Rattle.std.specs.Prelude.{◌≡◌, Result, Ok, Err, refl}
use Rattle.std.proofs.Common.{ap, ◌∙◌}
use Rattle.sval_core.specs.Law.{Emission}
use Rattle.sval_core.specs.Spells.{Spells}
use Rattle.sval_core.specs.Trees.{Tree}
use Rattle.sval_core.proofs.Spellings.{spells_one}
use Rattle.sval_check.specs.Checks.{CheckAnswer, IsCheckDue, IsOneValue}
use Rattle.sval_check.specs.declared.error.CheckError.{CheckError}
use Rattle.sval_check.specs.declared.error.CheckError.TheVariants as check
use Rattle.sval_check.proofs.AnswersDue.{one_answer}
use Rattle.sval_check.proofs.OneAnswer.{one_due}
use Rattle.sval_json.specs.declared.style.Variants.{Variants}
use Rattle.sval_json.specs.Json.{Json}
use Rattle.sval_json.specs.Number.{Refusal, InvalidKey, InvalidNumber}
use Rattle.sval_json.specs.Shape.{json_in}
use Rattle.sval_whole.specs.declared.error.WriteError.TheVariants as error
use Rattle.sval_whole.specs.Whole.{of_check_error, WriteAnswer, IsWriteDue}
use Rattle.sval_whole.specs.WholeLaws.{OneWriteAnswer}
use Rattle.sval_whole.proofs.Whole.{checked_answer, due_of_check, found_is_due, written_is_due, refused_is_due}

module _ (style : Variants) (e : Emission) where
  -- the check finds one thing alone
  found_once : (found : CheckError) (other : WriteAnswer) → IsCheckDue e (Err found) → IsWriteDue style e other → ◌≡◌ {A = WriteAnswer} (Err (of_check_error found)) other
  found_once found other d o = found_is_due style e found other o (one_due e (Err found) (checked_answer other) d (due_of_check style e other o))

  one_write_due : (due other : WriteAnswer) → IsWriteDue style e due → IsWriteDue style e other → due ≡ other
  one_write_due (Ok done) other d o = written_is_due style e d.value other o d.shape
  one_write_due (Err (error.BadCall at)) other d o = found_once (check.BadCall at) other d o
  one_write_due (Err error.Unfinished) other d o = found_once check.Unfinished other d o
  one_write_due (Err error.Refused) other d o = found_once check.Refused other d o
  one_write_due (Err error.InvalidKey) other d o = refused_is_due style e d.value InvalidKey other d.shape o
  one_write_due (Err error.InvalidNumber) other d o = refused_is_due style e d.value InvalidNumber other d.shape o
  one_write_due (Err error.Write) other d o = absurd d
  one_write_due (Err error.NoMemory) other d o = absurd d

  -- what is so of the tree is so of each tree that the calls spell
  of_each : (one : IsOneValue e) (shape : Result Json Refusal) → json_in style one.spells.0 ≡ shape → (tree : Tree) → Spells e.calls tree → json_in style tree ≡ shape
  of_each one shape is tree spells = ap (λ t. json_in style t) (spells_one e.calls tree one.spells.0 spells one.spells.1) ∙ is

  due_by_shape : (one : IsOneValue e) (shape : Result Json Refusal) → json_in style one.spells.0 ≡ shape → (due : WriteAnswer) × IsWriteDue style e due
  due_by_shape one (Ok json) is = (Ok tt, record { value = one; shape = λ tree spells. (json, of_each one (Ok json) is tree spells) })
  due_by_shape one (Err InvalidKey) is = (Err error.InvalidKey, record { value = one; shape = of_each one (Err InvalidKey) is })
  due_by_shape one (Err InvalidNumber) is = (Err error.InvalidNumber, record { value = one; shape = of_each one (Err InvalidNumber) is })

  due_by_check : (found : CheckAnswer) → IsCheckDue e found → (due : WriteAnswer) × IsWriteDue style e due
  due_by_check (Ok done) d = due_by_shape d (json_in style d.spells.0) refl
  due_by_check (Err (check.BadCall at)) d = (Err (error.BadCall at), d)
  due_by_check (Err check.Unfinished) d = (Err error.Unfinished, d)
  due_by_check (Err check.Refused) d = (Err error.Refused, d)
  due_by_check (Err check.NoMemory) d = absurd d

pub one_write_answer : OneWriteAnswer
one_write_answer style e =
    let (found, is, only) = one_answer e in
    let due = due_by_check style e found is in
    (due.0, due.1, λ other o. one_write_due style e due.0 other due.1 o)
