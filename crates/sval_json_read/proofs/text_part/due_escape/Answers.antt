use Rattle.std.proofs.Common.{sym, ◌∙◌, arith}
use Rattle.sval_json_read.specs.DueEscapes.{done}
use Rattle.sval_json_read.proofs.DueEscapes.{due_short_front}
use Rattle.sval_json_read.proofs.text_part.due_escape.Goals as goal

pub returns-then-bytes-lt2-clause-due : goal.returns-then-bytes-lt2-clause-due
returns-then-bytes-lt2-clause-due c = done

pub returns-then-is_due_letter-clause-due : goal.returns-then-is_due_letter-clause-due
returns-then-is_due_letter-clause-due c = due_short_front c.args.bytes.now (omega arith) (c.requires (omega arith)) (sym c.is_due_letter.ensures ∙ c.if-is_due_letter.true)

pub returns-clause-due : goal.returns-clause-due
returns-clause-due c = done
