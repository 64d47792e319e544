use Rattle.sval_buffer.proofs.KeptParts.{holds_nothing, tell}
use Rattle.sval_buffer.proofs.parts.Parts.clear.Goals as goal

pub invariant_of-self : goal.invariant_of-self
invariant_of-self g c = rw (c.clear.ensures.items, c.clear-2.ensures, c.none-self-inside.ensures) (tell holds_nothing)

pub returns : goal.returns
returns g c = rw (c.clear.ensures.items, c.none-self-inside.ensures) holds_nothing.is.view
