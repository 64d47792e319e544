use Rattle.std.proofs.Common.{ap, Err}
use Rattle.sval_relay.specs.Verdict.{all_in}
use Rattle.sval_relay.proofs.RelayAnswers.{first_bad_of_list, list_not_finished, relays_unchecked}
use Rattle.sval_relay.proofs.Served.{found_trees, some_of_ends, serves_many, full_for_many}
use Rattle.sval_relay.proofs.relaying.serve_list.Goals as goal

pub write_list-requires : goal.write_list-requires
write_list-requires g c =
    let (trees, are) = found_trees c.args.script.now c.in-Ok.ends c.requires.few c.requires.read c.in-Ok.ensures.ok in
    (trees, rw c.as_slice.ensures are)

pub returns-in-Ok-clause-relays : goal.returns-in-Ok-clause-relays
returns-in-Ok-clause-relays g c = λ bytes small is.
    let (trees, are) = found_trees c.args.script.now c.in-Ok.ends c.requires.few c.requires.read c.in-Ok.ensures.ok in
    serves_many g.K.Sink.told bytes c.args.way c.args.script.now c.in-Ok.ends trees c.args.out.now c.write_list.new.out c.write_list.result is are (c.write_list.ensures.writes trees (rw c.as_slice.ensures are))

pub returns-in-Ok-clause-write_room : goal.returns-in-Ok-clause-write_room
returns-in-Ok-clause-write_room g c = λ bytes is.
    let (trees, are) = found_trees c.args.script.now c.in-Ok.ends c.requires.few c.requires.read c.in-Ok.ensures.ok in
    full_for_many g.K.Sink.told bytes c.args.way c.args.script.now c.in-Ok.ends trees c.args.out.now c.write_list.new.out c.write_list.result is are (c.write_list.ensures.writes trees (rw c.as_slice.ensures are))

pub returns-in-Ok-clause-some_call : goal.returns-in-Ok-clause-some_call
returns-in-Ok-clause-some_call g c = λ e. some_of_ends c.args.script.now c.in-Ok.ends c.in-Ok.ensures.ok (c.write_list.ensures.some_end e)

pub returns-in-Err-clause-relays : goal.returns-in-Err-clause-relays
returns-in-Err-clause-relays g c = λ bytes small is.
    relays_unchecked g.K.Sink.told bytes (all_in c.args.way) c.args.out.now c.in-Err.error c.found.result c.found.ensures
    (λ n found. first_bad_of_list bytes c.args.way c.args.script.now n c.requires.few is (c.in-Err.ensures.bad_call n (ap Err found)))
    (λ found. list_not_finished bytes c.args.way (record { calls = c.args.script.now; refuses = _ }) is (c.in-Err.ensures.unfinished (ap Err found)))
