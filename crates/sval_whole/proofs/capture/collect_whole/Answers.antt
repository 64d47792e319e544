use Rattle.std.proofs.Common.{Ok, inl}
use Rattle.sval_check.proofs.OneAnswer.{one_due}
use Rattle.sval_whole.proofs.WholeCaptures.{captured_whole}
use Rattle.sval_whole.proofs.capture.collect_whole.Goals as goal

pub returns-in-Some-clause-ok : goal.returns-in-Some-clause-ok
returns-in-Some-clause-ok g c = captured_whole c.new-buffer.ensures c.in-Some.ensures.one_value c.in-Some.ensures.takes

pub returns-in-Some-clause-comes : goal.returns-in-Some-clause-comes
returns-in-Some-clause-comes g c due is = inl (one_due (g.V.Value.emission c.args.v.now) (Ok tt) due c.in-Some.ensures.one_value is)
