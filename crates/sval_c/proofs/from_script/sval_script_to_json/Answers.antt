use Rattle.sval_c.specs.Due.{JsonOfScriptDue}
use Rattle.sval_c.proofs.Reported.{reported}
use Rattle.sval_c.proofs.from_script.sval_script_to_json.Goals as goal

pub returns : goal.returns
returns c = reported (JsonOfScriptDue c.args.script.now) c.to_json.result (λ bytes. bytes.items) c.answer.result c.args.out.now c.answer.new.out c.to_json.ensures c.answer.ensures
