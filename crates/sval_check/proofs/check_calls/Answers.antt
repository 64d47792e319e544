use Rattle.std.proofs.Common.{sym, subst, ◌∙◌}
use Rattle.std.specs.Prelude.{Ok, Err}
use Rattle.sval_check.specs.declared.error.CheckError.{CheckError}
use Rattle.sval_check.specs.declared.error.CheckError.TheVariants as error
use Rattle.sval_check.specs.Checking.{checking}
use Rattle.sval_check.specs.Checks.{NeedsMemory, IsCheckDue}
use Rattle.sval_check.proofs.DueOrWant as due
use Rattle.sval_check.proofs.OneAnswer.{IsAnswer, one_due, answer_ok, whole_is_due, unfinished_is_due, cause_is_due}
use Rattle.sval_check.proofs.check_calls.Goals as goal

pub returns-in-Ok : goal.returns-in-Ok
returns-in-Ok g c =
    let e = g.V.Value.emission c.args.value.now in
    let a = whole_is_due e (checking c.new-checker.result) (checking c.stream.new.stream) c.new-checker.ensures c.in-Ok.ensures (sym c.is_whole.ensures ∙ c.if-is_whole.true) in
    record {
      ok = answer_ok e (Ok tt) a;
      bad_call = λ at is. due.bad_call (IsCheckDue e) (NeedsMemory e.calls) (Ok tt) at is a;
      refused = λ is. due.refused (IsCheckDue e) (NeedsMemory e.calls) (Ok tt) is a;
      unfinished = λ is. due.unfinished (IsCheckDue e) (NeedsMemory e.calls) (Ok tt) is a;
      no_memory = λ is. due.no_memory (IsCheckDue e) (NeedsMemory e.calls) (λ never. never) (Ok tt) is a;
      comes = λ answer is. due.comes (IsCheckDue e) (NeedsMemory e.calls) (one_due e) (Ok tt) answer a is;
    }

pub returns-in-Ok-2 : goal.returns-in-Ok-2
returns-in-Ok-2 g c =
    let e = g.V.Value.emission c.args.value.now in
    let a = unfinished_is_due e (checking c.new-checker.result) (checking c.stream.new.stream) c.new-checker.ensures c.in-Ok-2.ensures (sym c.is_whole.ensures ∙ c.if-is_whole.false) in
    record {
      ok = answer_ok e (Err error.Unfinished) a;
      bad_call = λ at is. due.bad_call (IsCheckDue e) (NeedsMemory e.calls) (Err error.Unfinished) at is a;
      refused = λ is. due.refused (IsCheckDue e) (NeedsMemory e.calls) (Err error.Unfinished) is a;
      unfinished = λ is. due.unfinished (IsCheckDue e) (NeedsMemory e.calls) (Err error.Unfinished) is a;
      no_memory = λ is. due.no_memory (IsCheckDue e) (NeedsMemory e.calls) (λ never. never) (Err error.Unfinished) is a;
      comes = λ answer is. due.comes (IsCheckDue e) (NeedsMemory e.calls) (one_due e) (Err error.Unfinished) answer a is;
    }

pub returns : goal.returns
returns g c =
    let e = g.V.Value.emission c.args.value.now in
    let is_due = cause_is_due e (checking c.new-checker.result) (checking c.stream.new.stream) c.new-checker.ensures c.in-Err.ensures in
    let a = subst (λ (error : CheckError). IsAnswer e (Err error)) (sym c.cause.ensures) is_due in
    record {
      ok = answer_ok e (Err c.cause.result) a;
      bad_call = λ at is. due.bad_call (IsCheckDue e) (NeedsMemory e.calls) (Err c.cause.result) at is a;
      refused = λ is. due.refused (IsCheckDue e) (NeedsMemory e.calls) (Err c.cause.result) is a;
      unfinished = λ is. due.unfinished (IsCheckDue e) (NeedsMemory e.calls) (Err c.cause.result) is a;
      no_memory = λ is. due.no_memory (IsCheckDue e) (NeedsMemory e.calls) (λ never. never) (Err c.cause.result) is a;
      comes = λ answer is. due.comes (IsCheckDue e) (NeedsMemory e.calls) (one_due e) (Err c.cause.result) answer a is;
    }
