use Rattle.std.proofs.Common.{ap, sym, subst, Err}
use Rattle.sval_c.specs.Lacks.{IsLacking}
use Rattle.sval_c.specs.OfTapes.{CborOfTapeDue, spells_none}
use Rattle.sval_c.proofs.TapeTexts.{unread}
use Rattle.sval_c.proofs.from_tape.to_cbor.Goals as goal

pub returns-in-Ok : goal.returns-in-Ok
returns-in-Ok c = c.cbor_of.ensures c.args.tape.now c.in-Ok.ensures.tape

pub returns-in-Err : goal.returns-in-Err
returns-in-Err c =
    subst (IsLacking (CborOfTapeDue c.args.tape.now)) (sym c.of_tape.ensures)
    (unread (CborOfTapeDue c.args.tape.now) c.args.tape.now spells_none c.in-Err.error (λ at e. c.in-Err.ensures.bad at (ap Err e)))
