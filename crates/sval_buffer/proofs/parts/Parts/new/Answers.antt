use Rattle.sval_buffer.proofs.KeptParts.{holds_nothing, tell}
use Rattle.sval_buffer.proofs.parts.Parts.new.Goals as goal

pub invariant_of-result : goal.invariant_of-result
invariant_of-result g c = rw (c.new.ensures.items, c.new-2.ensures, c.none.ensures) (tell holds_nothing)

pub returns : goal.returns
returns g c = rw (c.new.ensures.items, c.none.ensures) holds_nothing.is.view
