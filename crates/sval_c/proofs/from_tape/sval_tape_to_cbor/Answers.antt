use Rattle.sval_c.specs.OfTapes.{CborOfTapeDue}
use Rattle.sval_c.proofs.Reported.{reported}
use Rattle.sval_c.proofs.from_tape.sval_tape_to_cbor.Goals as goal

pub returns : goal.returns
returns c = reported (CborOfTapeDue c.args.tape.now) c.to_cbor.result (λ bytes. bytes.items) c.answer.result c.args.out.now c.answer.new.out c.to_cbor.ensures c.answer.ensures
