use Rattle.std.proofs.Common.{ap, sym, subst, Err}
use Rattle.sval_program.specs.Jobs.{ServesBytes}
use Rattle.sval_relay.specs.declared.way.Form.TheVariants.{Serve}
use Rattle.sval_relay.specs.Serves.{relay_terms}
use Rattle.sval_relay.specs.Verdict.{all_in}
use Rattle.sval_relay.proofs.DueTrees.{values_served}
use Rattle.sval_relay.proofs.RelayAnswers.{first_bad_of_list, list_not_finished}
use Rattle.sval_relay.proofs.ServeAnswers.{script_unchecked}
use Rattle.sval_relay.proofs.Served.{found_trees}
use Rattle.sval_relay.proofs.running.serve_values.Goals as goal

pub returns-in-Err : goal.returns-in-Err
returns-in-Err g c = λ bytes small is.
    script_unchecked g.K.Sink.told bytes (all_in c.args.way) c.args.out.now c.in-Err.error c.of_check.result c.of_check.ensures
    (λ n found. first_bad_of_list bytes c.args.way c.args.script.now n c.requires.few is (c.in-Err.ensures.bad_call n (ap Err found)))
    (λ found. list_not_finished bytes c.args.way (record { calls = c.args.script.now; refuses = _ }) is (c.in-Err.ensures.unfinished (ap Err found)))

pub write_list-requires : goal.write_list-requires
write_list-requires g c =
    let (trees, are) = found_trees c.args.script.now c.in-Ok.ends c.requires.few c.requires.read c.in-Ok.ensures.ok in
    (trees, rw c.as_slice.ensures are)

pub returns-in-Ok : goal.returns-in-Ok
returns-in-Ok g c = λ bytes small is.
    let (trees, are) = found_trees c.args.script.now c.in-Ok.ends c.requires.few c.requires.read c.in-Ok.ensures.ok in
    subst (λ result. ServesBytes relay_terms g.K.Sink.told (Serve (all_in c.args.way)) bytes result c.args.out.now c.write_list.new.out) (sym c.ended.ensures)
    (values_served g.K.Sink.told bytes c.args.way c.args.script.now c.in-Ok.ends trees c.args.out.now c.write_list.new.out c.write_list.result is are (c.write_list.ensures.writes trees (rw c.as_slice.ensures are)))
