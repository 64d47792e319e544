use Rattle.sval_c.specs.Due.{PrettyDue}
use Rattle.sval_c.proofs.Reported.{reported}
use Rattle.sval_c.proofs.from_json.sval_json_pretty.Goals as goal

pub returns : goal.returns
returns c = reported (PrettyDue c.args.input.now) c.to_pretty.result (λ bytes. bytes.items) c.answer.result c.args.out.now c.answer.new.out c.to_pretty.ensures c.answer.ensures
