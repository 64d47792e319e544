use Rattle.std.proofs.Common.{rules, option_map}
use Rattle.sval_label.specs.Calls as call
use Rattle.sval_tape.specs.ReadCalls.{tape_part_call, tag_read, label_read}
use Rattle.sval_tape.proofs.step.make_field.Goals as goal

pub returns-in-Err : goal.returns-in-Err
returns-in-Err g c = (tape_part_call c.args.side (call.Field (option_map tag_read c.in-Some.tag) (label_read c.in-Some.label)), c.in-Some.rest.now, search rules, c.in-Err.ensures)
