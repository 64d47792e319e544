use Rattle.std.proofs.Common.{arith, sym}
use Rattle.sval_tape.proofs.Forms.{no_form}
use Rattle.sval_tape.proofs.calls.read_operands.Goals as goal

pub returns-in-48-to-255 : goal.returns-in-48-to-255
returns-in-48-to-255 c = sym (no_form c.args.number c.args.bytes.now (omega arith))
