use Rattle.std.proofs.Common.{sym, subst, ◌∙◌}
use Rattle.std.specs.Prelude.{ℕ, List, Ok, Err}
use Rattle.sval_check.specs.declared.error.CheckError.{CheckError}
use Rattle.sval_check.specs.declared.error.CheckError.TheVariants as error
use Rattle.sval_check.specs.Listing.{lister_view}
use Rattle.sval_check.specs.ManyChecks.{NeedsMemoryOfList, IsDueOfList}
use Rattle.sval_check.proofs.DueOrWant as due
use Rattle.sval_check.proofs.ManyAnswers.{one_list_due}
use Rattle.sval_check.proofs.ListDue.{IsListAnswer, list_ok, closed_is_due, open_is_due, stop_is_due}
use Rattle.sval_check.proofs.check_all.Goals as goal

pub returns-in-Ok : goal.returns-in-Ok
returns-in-Ok g c =
    let e = g.V.Value.emission c.args.value.now in
    let is_due = closed_is_due e (lister_view c.new-lister.result) (lister_view c.stream.new.stream) c.new-lister.ensures c.in-Ok.ensures (sym c.is_closed.ensures ∙ c.if-is_closed.true) in
    let a = subst (λ (ends : List ℕ). IsListAnswer e (Ok ends)) (sym c.into_ends.ensures) is_due in
    record {
      ok = list_ok e (Ok c.into_ends.result) a;
      bad_call = λ at is. due.bad_call (IsDueOfList e) (NeedsMemoryOfList e.calls) (Ok c.into_ends.result) at is a;
      refused = λ is. due.refused (IsDueOfList e) (NeedsMemoryOfList e.calls) (Ok c.into_ends.result) is a;
      unfinished = λ is. due.unfinished (IsDueOfList e) (NeedsMemoryOfList e.calls) (Ok c.into_ends.result) is a;
      no_memory = λ is. due.no_memory (IsDueOfList e) (NeedsMemoryOfList e.calls) (λ never. never) (Ok c.into_ends.result) is a;
      comes = λ answer is. due.comes (IsDueOfList e) (NeedsMemoryOfList e.calls) (one_list_due e) (Ok c.into_ends.result) answer a is;
    }

pub returns-in-Ok-2 : goal.returns-in-Ok-2
returns-in-Ok-2 g c =
    let e = g.V.Value.emission c.args.value.now in
    let a = open_is_due e (lister_view c.new-lister.result) (lister_view c.stream.new.stream) c.new-lister.ensures c.in-Ok-2.ensures (sym c.is_closed.ensures ∙ c.if-is_closed.false) in
    record {
      ok = list_ok e (Err error.Unfinished) a;
      bad_call = λ at is. due.bad_call (IsDueOfList e) (NeedsMemoryOfList e.calls) (Err error.Unfinished) at is a;
      refused = λ is. due.refused (IsDueOfList e) (NeedsMemoryOfList e.calls) (Err error.Unfinished) is a;
      unfinished = λ is. due.unfinished (IsDueOfList e) (NeedsMemoryOfList e.calls) (Err error.Unfinished) is a;
      no_memory = λ is. due.no_memory (IsDueOfList e) (NeedsMemoryOfList e.calls) (λ never. never) (Err error.Unfinished) is a;
      comes = λ answer is. due.comes (IsDueOfList e) (NeedsMemoryOfList e.calls) (one_list_due e) (Err error.Unfinished) answer a is;
    }

pub returns-in-Err : goal.returns-in-Err
returns-in-Err g c =
    let e = g.V.Value.emission c.args.value.now in
    let is_due = stop_is_due e (lister_view c.new-lister.result) (lister_view c.stream.new.stream) c.new-lister.ensures c.in-Err.ensures in
    let a = subst (λ (error : CheckError). IsListAnswer e (Err error)) (sym c.cause.ensures) is_due in
    record {
      ok = list_ok e (Err c.cause.result) a;
      bad_call = λ at is. due.bad_call (IsDueOfList e) (NeedsMemoryOfList e.calls) (Err c.cause.result) at is a;
      refused = λ is. due.refused (IsDueOfList e) (NeedsMemoryOfList e.calls) (Err c.cause.result) is a;
      unfinished = λ is. due.unfinished (IsDueOfList e) (NeedsMemoryOfList e.calls) (Err c.cause.result) is a;
      no_memory = λ is. due.no_memory (IsDueOfList e) (NeedsMemoryOfList e.calls) (λ never. never) (Err c.cause.result) is a;
      comes = λ answer is. due.comes (IsDueOfList e) (NeedsMemoryOfList e.calls) (one_list_due e) (Err c.cause.result) answer a is;
    }
