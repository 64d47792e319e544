use Rattle.sval_core.specs.Values.{makes}
use Rattle.sval_cbor.proofs.Answered.{checked}
use Rattle.sval_cbor.proofs.ScriptAnswers.{check_fails}
use Rattle.sval_cbor.proofs.running.write_script.Goals as goal

pub write_tree-requires : goal.write_tree-requires
write_tree-requires g c = checked (makes c.args.script.now) c.in-Ok.ensures.ok c.in-Ok.ensures.comes

pub returns-in-Err : goal.returns-in-Err
returns-in-Err g c = λ bytes good.
    check_fails bytes c.args.script.now good g.K.Sink.told c.args.out.now c.in-Err.error c.of_check.result c.of_check.ensures c.in-Err.ensures.bad_call c.in-Err.ensures.unfinished
