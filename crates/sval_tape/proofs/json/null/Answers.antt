use Rattle.sval_tape.proofs.JsonFront.{null_at}
use Rattle.sval_tape.proofs.json.null.Goals as goal

pub returns : goal.returns
returns c = null_at c.args.bytes.now c.in_ok-put.ensures
