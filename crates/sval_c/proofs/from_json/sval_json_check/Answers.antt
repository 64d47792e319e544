use Rattle.std.proofs.Common.{ap, ◌∙◌}
use Rattle.sval_c.specs.Reports.{report_of_lack, is_well}
use Rattle.sval_c.proofs.Texts.{well, judged}
use Rattle.sval_c.proofs.from_json.sval_json_check.Goals as goal

pub returns-in-Ok : goal.returns-in-Ok
returns-in-Ok c = is_well (well c.args.input.now c.in-Ok.ensures.ok) c.of_checked.ensures

pub returns-in-Err : goal.returns-in-Err
returns-in-Err c = judged c.args.input.now c.in-Err.error c.of_lack.result c.in-Err.ensures.err (c.of_lack.ensures ∙ ap report_of_lack c.of_json.ensures)
