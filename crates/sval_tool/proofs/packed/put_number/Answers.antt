use Rattle.sval_tool.proofs.TakenBytes.{number_took}
use Rattle.sval_tool.proofs.packed.put_number.Goals as goal

pub returns-in-Ok : goal.returns-in-Ok
returns-in-Ok c = number_took c.args.text.now c.args.out.now c.write_number.new.out c.requires.other c.in-Ok.ensures
