use Rattle.std.specs.Prelude.{Err, None}
use Rattle.std.proofs.Common.{ap, sym, subst}
use Rattle.sval_io.specs.Taken.{Taken, taken_told}
use Rattle.sval_relay.specs.declared.relaying.RelayError.{RelayError}
use Rattle.sval_relay.specs.declared.way.Way.TheVariants.{Direct}
use Rattle.sval_relay.specs.Relays.{Relays}
use Rattle.sval_relay.specs.Verdict.{one_in}
use Rattle.sval_c.specs.Due.{JsonOfScriptDue}
use Rattle.sval_c.proofs.Scripts.{served, write_never, unserved}
use Rattle.sval_c.proofs.from_script.to_json.Goals as goal

pub returns-in-Ok : goal.returns-in-Ok
returns-in-Ok c =
    let empty = ap (λ (sink : Taken). sink.bytes) c.new-sink.ensures in
    subst (JsonOfScriptDue c.args.script.now None) (sym c.into_vec.ensures) (served c.args.script.now c.new-sink.result c.relay.new.out empty c.in-Ok.ensures.relays)

pub of_relay-requires : goal.of_relay-requires
of_relay-requires c = λ is.
    write_never c.args.script.now c.new-sink.result c.relay.new.out
    (subst (λ (why : RelayError). Relays taken_told c.args.script.now (one_in Direct) (Err why) c.new-sink.result c.relay.new.out) is c.in-Err.ensures.relays)

pub returns-in-Err : goal.returns-in-Err
returns-in-Err c = unserved c.args.script.now c.new-sink.result c.relay.new.out c.in-Err.error c.of_relay.result c.of_relay.ensures c.in-Err.ensures.relays
