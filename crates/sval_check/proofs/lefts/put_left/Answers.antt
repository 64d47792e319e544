use Rattle.sval_check.proofs.Tops.{changed}
use Rattle.sval_check.proofs.lefts.put_left.Goals as goal

pub returns-in-Some : goal.returns-in-Some
returns-in-Some c = let is = c.in-Some.ensures.item in changed (λ _. c.args.left) c.args.lefts.now c.in-Some.innermost.now c.new.result is.0 is.1 c.new.ensures
