use Rattle.std.proofs.Common.{ap, sym, subst, Err}
use Rattle.sval_relay.specs.Relays.{Relays}
use Rattle.sval_relay.specs.Verdict.{one_in}
use Rattle.sval_relay.proofs.RelayAnswers.{first_bad, not_finished, relays_unchecked}
use Rattle.sval_relay.proofs.Served.{serves_one, full_for_one}
use Rattle.sval_relay.proofs.relaying.serve_one.Goals as goal

pub returns-in-Err-clause-relays : goal.returns-in-Err-clause-relays
returns-in-Err-clause-relays g c = λ bytes small is.
    subst (λ out. Relays g.K.Sink.told bytes (one_in c.args.way) (Err c.found.result) c.args.out.now out) (sym c.in-Err.ensures.untouched)
    (relays_unchecked g.K.Sink.told bytes (one_in c.args.way) c.args.out.now c.in-Err.error c.found.result c.found.ensures
    (λ n found. first_bad bytes c.args.way c.args.script.now n c.requires.few is (c.in-Err.ensures.bad_call n (ap Err found)))
    (λ found. not_finished bytes c.args.way (record { calls = c.args.script.now; refuses = _ }) is (c.in-Err.ensures.unfinished (ap Err found))))

pub returns-in-Ok-clause-relays : goal.returns-in-Ok-clause-relays
returns-in-Ok-clause-relays g c = λ bytes small is.
    let w = c.in-Ok.ensures.written in
    serves_one g.K.Sink.told bytes c.args.way c.args.script.now w.tree c.args.out.now c.write_checked.new.out c.in-Ok.written is w.spells w.writes

pub returns-in-Ok-clause-write_room : goal.returns-in-Ok-clause-write_room
returns-in-Ok-clause-write_room g c = λ bytes is.
    let w = c.in-Ok.ensures.written in
    full_for_one g.K.Sink.told bytes c.args.way c.args.script.now w.tree c.args.out.now c.write_checked.new.out c.in-Ok.written is w.spells w.writes
