use Rattle.std.proofs.Common.{refl, rules, None}
use Rattle.sval_script.proofs.CanonPrinters.{after_streams, after_stops}
use Rattle.sval_script.proofs.canon.print_canon.Goals as goal

-- the stream began with the sink that was handed in, under a name of its own
pub returns-in-Ok : goal.returns-in-Ok
returns-in-Ok g c =
    let after = after_streams g.K.Sink.told (g.V.ValueRef.ref_emission c.args.value.now) (record { out = record c.args.out { ghost_name = _ }; why = None }) c.stream_ref-printed.new.stream c.in-Ok.ensures in
    search rules

pub returns-in-Err : goal.returns-in-Err
returns-in-Err g c =
    let after = after_stops g.K.Sink.told (g.V.ValueRef.ref_emission c.args.value.now) (record { out = record c.args.out { ghost_name = _ }; why = None }) c.stream_ref-printed.new.stream
    c.unwrap_or.result refl c.unwrap_or.ensures c.in-Err.ensures in
    search rules
