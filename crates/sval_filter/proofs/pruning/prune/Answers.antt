use Rattle.std.proofs.Common.{ap, Err, ◌∙◌}
use Rattle.sval_filter.proofs.pruning.prune.Goals as goal

pub returns-in-Err-BadCall-clause-err : goal.returns-in-Err-BadCall-clause-err
returns-in-Err-BadCall-clause-err g c = rw c.in-Err-BadCall.field-0-is (c.check.ensures.bad_call _ (c.in-Err-BadCall.is ∙ ap Err c.in-Err-BadCall.field-0-is))
