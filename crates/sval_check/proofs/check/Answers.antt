use Rattle.std.specs.Prelude.{Ok}
use Rattle.std.proofs.Common.{inl}
use Rattle.sval_check.specs.Checks.{NeedsMemory, IsCheckDue}
use Rattle.sval_check.proofs.DueOrWant as due
use Rattle.sval_check.proofs.OneAnswer.{IsAnswer, one_due, answer_ok}
use Rattle.sval_check.proofs.check.Goals as goal

pub returns-then-is_surely_whole : goal.returns-then-is_surely_whole
returns-then-is_surely_whole g c =
    let e = g.V.Value.emission c.args.value.now in
    let a : IsAnswer e (Ok tt) = inl (c.is_surely_whole.ensures c.if-is_surely_whole.true) in
    record {
      ok = answer_ok e (Ok tt) a;
      bad_call = λ at is. due.bad_call (IsCheckDue e) (NeedsMemory e.calls) (Ok tt) at is a;
      refused = λ is. due.refused (IsCheckDue e) (NeedsMemory e.calls) (Ok tt) is a;
      unfinished = λ is. due.unfinished (IsCheckDue e) (NeedsMemory e.calls) (Ok tt) is a;
      no_memory = λ is. due.no_memory (IsCheckDue e) (NeedsMemory e.calls) (λ never. never) (Ok tt) is a;
      comes = λ answer is. due.comes (IsCheckDue e) (NeedsMemory e.calls) (one_due e) (Ok tt) answer a is;
    }
