use Rattle.sval_cbor.proofs.laws.verdict_laws.Goals as goal
use Rattle.sval_cbor.proofs.Verdicts.{each_one, one_due}

pub returns-clause-one_verdict : goal.returns-clause-one_verdict
returns-clause-one_verdict c = each_one

pub returns-clause-one_due : goal.returns-clause-one_due
returns-clause-one_due c = one_due
