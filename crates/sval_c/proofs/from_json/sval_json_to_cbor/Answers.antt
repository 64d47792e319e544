use Rattle.sval_c.specs.Due.{CborOfTextDue}
use Rattle.sval_c.proofs.Reported.{reported}
use Rattle.sval_c.proofs.from_json.sval_json_to_cbor.Goals as goal

pub returns : goal.returns
returns c = reported (CborOfTextDue c.args.input.now) c.to_cbor.result (λ bytes. bytes.items) c.answer.result c.args.out.now c.answer.new.out c.to_cbor.ensures c.answer.ensures
