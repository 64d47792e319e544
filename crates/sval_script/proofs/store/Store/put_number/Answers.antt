use Rattle.std.proofs.Common.{◌≡◌, Err, pos, refl, ap, rules}
use Rattle.std.specs.Int.{w8, w16, w32, w64, w128}
use Rattle.std.proofs.lemmas.Result.{err_from_is_err_and}
use Rattle.std.proofs.lemmas.Str.{IsUtf8-nil}
use mir.Val.{SFits}
use mir.ValLaws.{to_z-of_z}
use Rattle.sval_label.specs.Calls as call
use Rattle.sval_script.specs.declared.field.LineError.TheVariants.{Bad}
use Rattle.sval_script.proofs.LinesMade.{says_all, says_number, says_signed, says_wide, says_wide_signed}
use Rattle.sval_script.proofs.store.Store.put_number.Goals as goal

pub returns-in-U8-clause-made : goal.returns-in-U8-clause-made
returns-in-U8-clause-made c = rw c.in-U8.is (says_all _ _ _ refl refl refl IsUtf8-nil)

pub returns-in-U16-clause-made : goal.returns-in-U16-clause-made
returns-in-U16-clause-made c = rw c.in-U16.is (says_all _ _ _ refl refl refl IsUtf8-nil)

pub returns-in-U32-clause-made : goal.returns-in-U32-clause-made
returns-in-U32-clause-made c = rw c.in-U32.is (says_all _ _ _ refl refl refl IsUtf8-nil)

pub returns-in-I8-clause-made : goal.returns-in-I8-clause-made
returns-in-I8-clause-made c =
    let fits : SFits w8 c.in-I8.number = search rules in
    rw c.in-I8.is (says_all _ _ _ (ap (call.Int call.I8) (to_z-of_z w8 c.in-I8.number fits)) refl refl IsUtf8-nil)

pub returns-in-I16-clause-made : goal.returns-in-I16-clause-made
returns-in-I16-clause-made c =
    let fits : SFits w16 c.in-I16.number = search rules in
    rw c.in-I16.is (says_all _ _ _ (ap (call.Int call.I16) (to_z-of_z w16 c.in-I16.number fits)) refl refl IsUtf8-nil)

pub returns-in-I32-clause-made : goal.returns-in-I32-clause-made
returns-in-I32-clause-made c =
    let fits : SFits w32 c.in-I32.number = search rules in
    rw c.in-I32.is (says_all _ _ _ (ap (call.Int call.I32) (to_z-of_z w32 c.in-I32.number fits)) refl refl IsUtf8-nil)

pub returns-in_ok-push-in-U64-clause-made : goal.returns-in_ok-push-in-U64-clause-made
returns-in_ok-push-in-U64-clause-made c = rw c.in-U64.is (says_number _ c.in-U64.number _ _ _ refl c.in_ok-push-in-U64.ensures.bytes c.in_ok-push-in-U64.ensures.numbers refl refl IsUtf8-nil)

pub returns-in_ok-push-in-I64-clause-made : goal.returns-in_ok-push-in-I64-clause-made
returns-in_ok-push-in-I64-clause-made c =
    let fits : SFits w64 c.in-I64.number = search rules in
    rw c.in-I64.is (says_signed c.in-I64.number c.cast_unsigned.result _ _ fits c.cast_unsigned.ensures c.in_ok-push-in-I64.ensures.bytes c.in_ok-push-in-I64.ensures.numbers)

pub returns-in_ok-push_wide-in-U128-clause-made : goal.returns-in_ok-push_wide-in-U128-clause-made
returns-in_ok-push_wide-in-U128-clause-made c = rw c.in-U128.is (says_wide (λ n. call.Int call.U128 (pos n)) c.in-U128.number _ _ _ (λ numbers. refl) c.in_ok-push_wide-in-U128.ensures.bytes c.in_ok-push_wide-in-U128.ensures.numbers (λ numbers. refl) refl IsUtf8-nil)

pub returns-in_ok-push_wide-in-I128-clause-made : goal.returns-in_ok-push_wide-in-I128-clause-made
returns-in_ok-push_wide-in-I128-clause-made c =
    let fits : SFits w128 c.in-I128.number = search rules in
    rw c.in-I128.is (says_wide_signed c.in-I128.number c.cast_unsigned-in-I128.result _ _ fits c.cast_unsigned-in-I128.ensures c.in_ok-push_wide-in-I128.ensures.bytes c.in_ok-push_wide-in-I128.ensures.numbers)

pub returns-in_err-push-in-U64-clause-made : goal.returns-in_err-push-in-U64-clause-made
returns-in_err-push-in-U64-clause-made c =
    let p = err_from_is_err_and c.from_residual.result c.from_residual.ensures.1 in
    rw p.1 tt

pub returns-in_err-push-in-U64-clause-no_memory : goal.returns-in_err-push-in-U64-clause-no_memory
returns-in_err-push-in-U64-clause-no_memory c = λ bad.
    let p = err_from_is_err_and c.from_residual.result c.from_residual.ensures.1 in
    let same : c.in_err-push-in-U64.field-0.0 ≡ Bad = cc (bad, p.1, p.2) in
    c.in_err-push-in-U64.ensures.no_memory (ap Err same)

pub returns-in_err-push_wide-in-U128-clause-made : goal.returns-in_err-push_wide-in-U128-clause-made
returns-in_err-push_wide-in-U128-clause-made c =
    let p = err_from_is_err_and c.from_residual-in_err-push_wide-in-U128.result c.from_residual-in_err-push_wide-in-U128.ensures.1 in
    rw p.1 tt

pub returns-in_err-push_wide-in-U128-clause-no_memory : goal.returns-in_err-push_wide-in-U128-clause-no_memory
returns-in_err-push_wide-in-U128-clause-no_memory c = λ bad.
    let p = err_from_is_err_and c.from_residual-in_err-push_wide-in-U128.result c.from_residual-in_err-push_wide-in-U128.ensures.1 in
    let same : c.in_err-push_wide-in-U128.field-0.0 ≡ Bad = cc (bad, p.1, p.2) in
    c.in_err-push_wide-in-U128.ensures.no_memory (ap Err same)

pub returns-in_err-push-in-I64-clause-made : goal.returns-in_err-push-in-I64-clause-made
returns-in_err-push-in-I64-clause-made c =
    let p = err_from_is_err_and c.from_residual-in_err-push-in-I64.result c.from_residual-in_err-push-in-I64.ensures.1 in
    rw p.1 tt

pub returns-in_err-push-in-I64-clause-no_memory : goal.returns-in_err-push-in-I64-clause-no_memory
returns-in_err-push-in-I64-clause-no_memory c = λ bad.
    let p = err_from_is_err_and c.from_residual-in_err-push-in-I64.result c.from_residual-in_err-push-in-I64.ensures.1 in
    let same : c.in_err-push-in-I64.field-0.0 ≡ Bad = cc (bad, p.1, p.2) in
    c.in_err-push-in-I64.ensures.no_memory (ap Err same)

pub returns-in_err-push_wide-in-I128-clause-made : goal.returns-in_err-push_wide-in-I128-clause-made
returns-in_err-push_wide-in-I128-clause-made c =
    let p = err_from_is_err_and c.from_residual-in_err-push_wide-in-I128.result c.from_residual-in_err-push_wide-in-I128.ensures.1 in
    rw p.1 tt

pub returns-in_err-push_wide-in-I128-clause-no_memory : goal.returns-in_err-push_wide-in-I128-clause-no_memory
returns-in_err-push_wide-in-I128-clause-no_memory c = λ bad.
    let p = err_from_is_err_and c.from_residual-in_err-push_wide-in-I128.result c.from_residual-in_err-push_wide-in-I128.ensures.1 in
    let same : c.in_err-push_wide-in-I128.field-0.0 ≡ Bad = cc (bad, p.1, p.2) in
    c.in_err-push_wide-in-I128.ensures.no_memory (ap Err same)

pub returns-in-U8-clause-no_memory : goal.returns-in-U8-clause-no_memory
returns-in-U8-clause-no_memory c = λ bad. cc bad

pub returns-in-U16-clause-no_memory : goal.returns-in-U16-clause-no_memory
returns-in-U16-clause-no_memory c = λ bad. cc bad

pub returns-in-U32-clause-no_memory : goal.returns-in-U32-clause-no_memory
returns-in-U32-clause-no_memory c = λ bad. cc bad

pub returns-in-I8-clause-no_memory : goal.returns-in-I8-clause-no_memory
returns-in-I8-clause-no_memory c = λ bad. cc bad

pub returns-in-I16-clause-no_memory : goal.returns-in-I16-clause-no_memory
returns-in-I16-clause-no_memory c = λ bad. cc bad

pub returns-in-I32-clause-no_memory : goal.returns-in-I32-clause-no_memory
returns-in-I32-clause-no_memory c = λ bad. cc bad

pub returns-in_ok-push-in-U64-clause-no_memory : goal.returns-in_ok-push-in-U64-clause-no_memory
returns-in_ok-push-in-U64-clause-no_memory c = λ bad. cc bad

pub returns-in_ok-push-in-I64-clause-no_memory : goal.returns-in_ok-push-in-I64-clause-no_memory
returns-in_ok-push-in-I64-clause-no_memory c = λ bad. cc bad

pub returns-in_ok-push_wide-in-U128-clause-no_memory : goal.returns-in_ok-push_wide-in-U128-clause-no_memory
returns-in_ok-push_wide-in-U128-clause-no_memory c = λ bad. cc bad

pub returns-in_ok-push_wide-in-I128-clause-no_memory : goal.returns-in_ok-push_wide-in-I128-clause-no_memory
returns-in_ok-push_wide-in-I128-clause-no_memory c = λ bad. cc bad
