use Rattle.sval_c.specs.OfTapes.{JsonOfTapeDue}
use Rattle.sval_c.proofs.Reported.{reported}
use Rattle.sval_c.proofs.from_tape.sval_tape_to_json.Goals as goal

pub returns : goal.returns
returns c = reported (JsonOfTapeDue c.args.style c.args.tape.now) c.to_json.result (λ bytes. bytes.items) c.answer.result c.args.out.now c.answer.new.out c.to_json.ensures c.answer.ensures
