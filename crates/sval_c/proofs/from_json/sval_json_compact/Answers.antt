use Rattle.sval_c.specs.Due.{CompactDue}
use Rattle.sval_c.proofs.Reported.{reported}
use Rattle.sval_c.proofs.from_json.sval_json_compact.Goals as goal

pub returns : goal.returns
returns c = reported (CompactDue c.args.input.now) c.compact.result (λ bytes. bytes.items) c.answer.result c.args.out.now c.answer.new.out c.compact.ensures c.answer.ensures
