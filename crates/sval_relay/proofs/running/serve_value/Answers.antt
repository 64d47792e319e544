use Rattle.std.proofs.Common.{ap, sym, subst, Err}
use Rattle.sval_program.specs.Jobs.{ServesBytes}
use Rattle.sval_relay.specs.declared.way.Form.TheVariants.{Serve}
use Rattle.sval_relay.specs.Serves.{relay_terms}
use Rattle.sval_relay.specs.Verdict.{one_in}
use Rattle.sval_relay.proofs.DueTrees.{value_served}
use Rattle.sval_relay.proofs.RelayAnswers.{first_bad, not_finished}
use Rattle.sval_relay.proofs.ServeAnswers.{script_unchecked}
use Rattle.sval_relay.proofs.running.serve_value.Goals as goal

pub returns-in-Err : goal.returns-in-Err
returns-in-Err g c = λ bytes small is.
    subst (λ out. ServesBytes relay_terms g.K.Sink.told (Serve (one_in c.args.way)) bytes (Err c.of_check.result) c.args.out.now out) (sym c.in-Err.ensures.untouched)
    (script_unchecked g.K.Sink.told bytes (one_in c.args.way) c.args.out.now c.in-Err.error c.of_check.result c.of_check.ensures
    (λ n found. first_bad bytes c.args.way c.args.script.now n c.requires.few is (c.in-Err.ensures.bad_call n (ap Err found)))
    (λ found. not_finished bytes c.args.way (record { calls = c.args.script.now; refuses = _ }) is (c.in-Err.ensures.unfinished (ap Err found))))

pub returns-in-Ok : goal.returns-in-Ok
returns-in-Ok g c = λ bytes small is.
    let w = c.in-Ok.ensures.written in
    subst (λ result. ServesBytes relay_terms g.K.Sink.told (Serve (one_in c.args.way)) bytes result c.args.out.now c.write_checked.new.out) (sym c.ended.ensures)
    (value_served g.K.Sink.told bytes c.args.way c.args.script.now w.tree c.args.out.now c.write_checked.new.out c.in-Ok.written is w.spells w.printable w.writes)
