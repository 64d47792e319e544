use Rattle.sval_filter.proofs.ScriptAnswers.{check_fails}
use Rattle.sval_filter.proofs.running.write_script.Goals as goal

pub returns-in-Err : goal.returns-in-Err
returns-in-Err g c = λ bytes good.
    check_fails bytes c.args.form.now c.args.script.now good g.K.Sink.told c.args.out.now c.in-Err.error c.of_check.result c.of_check.ensures c.in-Err.ensures.bad_call c.in-Err.ensures.unfinished
