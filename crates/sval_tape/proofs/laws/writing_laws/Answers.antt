use Rattle.sval_tape.proofs.Writers.{writes_all}
use Rattle.sval_tape.proofs.laws.writing_laws.Goals as goal

pub returns : goal.returns
returns c = writes_all
