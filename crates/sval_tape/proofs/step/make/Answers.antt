use Rattle.std.proofs.Common.{rules}
use Rattle.sval_tape.specs.ReadCalls.{call_read}
use Rattle.sval_tape.proofs.step.make.Goals as goal

pub returns-in-Err : goal.returns-in-Err
returns-in-Err g c = (call_read c.in-Some.call, c.in-Some.rest.now, search rules, c.in-Err.ensures)
