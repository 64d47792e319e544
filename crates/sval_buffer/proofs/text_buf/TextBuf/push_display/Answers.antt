use Rattle.sval_buffer.proofs.text_buf.TextBuf.push_display.Goals as goal
use Rattle.sval_buffer.proofs.text_buf.TextBuf.push_display.Goals.{in-Ok, in-Err}

pub returns-clause-err : goal.returns-clause-err
returns-clause-err g c = elim c.match-push_display.branch [
  | in-Ok w ↦ rw w.result-is tt
  | in-Err w ↦ rw w.result-is (w.not_displayed.ensures.cause (g.D.Render.unprintable c.args.value.now) (rw w.in-Err.is at c.push_display.ensures.err))
]
