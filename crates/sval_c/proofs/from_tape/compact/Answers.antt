use Rattle.sval_c.proofs.TapeTexts.{json_due}
use Rattle.sval_c.proofs.from_tape.compact.Goals as goal

pub returns-in-Some : goal.returns-in-Some
returns-in-Some c = json_due c.args.tape.now c.in-Some.json.items c.in-Some.ensures
