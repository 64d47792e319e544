use Rattle.std.proofs.Common.{rules}
use Rattle.sval_tape.specs.ReadCalls.{tape_named_call, name_read}
use Rattle.sval_tape.proofs.step.make_named.Goals as goal

pub returns-in-Err : goal.returns-in-Err
returns-in-Err g c = (tape_named_call c.args.word (name_read c.in-Some.name), c.in-Some.rest.now, search rules, c.in-Err.ensures)
