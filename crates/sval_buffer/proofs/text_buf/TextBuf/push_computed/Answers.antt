use Rattle.sval_buffer.proofs.Pushes.{text-pushed}
use Rattle.sval_buffer.proofs.text_buf.TextBuf.push_computed.Goals as goal

pub invariant_of-self : goal.invariant_of-self
invariant_of-self c = rw c.push_computed.ensures.pushes (text-pushed _ _ _ c.self.invariant c.as_bytes.ensures.utf8)

pub invariant_of-self-2 : goal.invariant_of-self-2
invariant_of-self-2 c = rw c.push_computed.ensures.pushes (text-pushed _ _ _ c.self.invariant c.as_bytes.ensures.utf8)
