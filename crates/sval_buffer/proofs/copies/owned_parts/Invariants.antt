use Rattle.sval_buffer.proofs.OwnedCopies.{OwnsFirst}
use Rattle.sval_buffer.proofs.copies.owned_parts.Given as goal

abbrev pub invariant-loop-part : goal.invariant-loop-part
invariant-loop-part g l = OwnsFirst l.initial.stores l.stores l.parts l.part-index l.copies.items
