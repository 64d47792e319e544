use Rattle.sval_check.specs.Tops.{advanced}
use Rattle.sval_check.proofs.Tops.{changed}
use Rattle.sval_check.proofs.lefts.advance_frame.Goals as goal

pub returns-in-Some-clause-frames : goal.returns-in-Some-clause-frames
returns-in-Some-clause-frames c = let is = c.in-Some.ensures.item in changed advanced c.args.frames.now c.in-Some.top.now c.advanced.result is.0 is.1 c.advanced.ensures
