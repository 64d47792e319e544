use Rattle.std.proofs.lemmas.Result.{err_from_is_err_and}
use Rattle.sval_cbor_read.proofs.WellFormedSteps.{holds_by, whole_goes, opened_goes}
use Rattle.sval_cbor_read.proofs.well_formed.step.Goals as goal

pub returns-in_err-push-in-Some-Opens-clause-no_memory : goal.returns-in_err-push-in-Some-Opens-clause-no_memory
returns-in_err-push-in-Some-Opens-clause-no_memory c =
    let opens = (rw c.in-Some-Opens.field-0-is at c.in-Some-Opens.ensures) in
    let p = err_from_is_err_and c.from_residual.result c.from_residual.ensures.1 in
    rw p.1 (holds_by c.requires opens.2)

pub returns-in-Some-Whole-clause-goes : goal.returns-in-Some-Whole-clause-goes
returns-in-Some-Whole-clause-goes c =
    whole_goes c.requires c.in-Some-Whole.next c.behind_item.new.opened c.behind_item.result (rw c.in-Some-Whole.field-0-is at c.in-Some-Whole.ensures) c.behind_item.ensures

pub returns-in_ok-push-in-Some-Opens-clause-goes : goal.returns-in_ok-push-in-Some-Opens-clause-goes
returns-in_ok-push-in-Some-Opens-clause-goes c =
    opened_goes c.requires c.in-Some-Opens.frame c.in-Some-Opens.next c.push.new.self c.behind_item-in-Some-Opens.new.opened c.behind_item-in-Some-Opens.result
    (rw c.in-Some-Opens.field-0-is at c.in-Some-Opens.ensures) c.in_ok-push-in-Some-Opens.ensures c.behind_item-in-Some-Opens.ensures
