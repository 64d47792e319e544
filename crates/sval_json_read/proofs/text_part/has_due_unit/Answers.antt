use Rattle.std.proofs.Common.{sym, ◌∙◌, arith}
use Rattle.sval_json_read.proofs.DueEscapes.{due_unit_front}
use Rattle.sval_json_read.proofs.text_part.has_due_unit.Goals as goal

pub returns-in-117-clause-due : goal.returns-in-117-clause-due
returns-in-117-clause-due c = λ e. due_unit_front c.args.bytes.now (omega arith) c.requires (omega arith) (omega arith) (omega arith) (sym c.is_due_unit.ensures ∙ e)
