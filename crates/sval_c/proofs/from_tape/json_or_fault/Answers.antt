use Rattle.std.proofs.Common.{ap, Err}
use Rattle.sval_c.specs.OfTapes.{CompactOfTape, no_tree}
use Rattle.sval_c.proofs.TapeTexts.{unchecked, never_refuses}
use Rattle.sval_c.proofs.from_tape.json_or_fault.Goals as goal

pub returns-in-Ok : goal.returns-in-Ok
returns-in-Ok c = c.json_of.ensures

pub of_check-requires : goal.of_check-requires
of_check-requires c = λ is. never_refuses c.args.tape.now (c.in-Err.ensures.refused (ap Err is))

pub returns-in-Err : goal.returns-in-Err
returns-in-Err c = λ bytes is.
    unchecked (CompactOfTape bytes) bytes no_tree c.args.tape.now is c.in-Err.error c.of_check.result c.of_check.ensures
    (λ at e. c.in-Err.ensures.bad_call at (ap Err e)) (λ e. c.in-Err.ensures.unfinished (ap Err e))
