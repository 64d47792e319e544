use Rattle.std.proofs.Common.{refl, rules, false, None, subst, Option}
use Rattle.sval_cbor.specs.declared.error.Stop.{Stop}
use Rattle.sval_cbor.specs.declared.writer.Place.TheVariants.{Elsewhere}
use Rattle.sval_cbor.specs.Writing.{cbor_start, written_from}
use Rattle.sval_cbor.proofs.Streaming.{IsHaltedBy, after_streams, after_stops}
use Rattle.sval_cbor.proofs.to_cbor.write_calls.Goals as goal

-- the writer began with the sink that was handed in, under a name of its own
pub returns-in-Ok : goal.returns-in-Ok
returns-in-Ok g c =
    let after = after_streams g.K.Sink.told (cbor_start c.args.style c.args.counts.now) (g.V.Value.emission c.args.v.now) (record { sink = record c.args.out { ghost_name = _ }; style = c.args.style; place = Elsewhere; in_key = false; in_number = false; why = None; counts = c.args.counts }) c.stream-streamed.new.stream refl c.in-Ok.ensures in
    let wrote = after.wrote in search rules

pub returns-in-Some : goal.returns-in-Some
returns-in-Some g c =
    let after = after_stops g.K.Sink.told (cbor_start c.args.style c.args.counts.now) (g.V.Value.emission c.args.v.now) (record { sink = record c.args.out { ghost_name = _ }; style = c.args.style; place = Elsewhere; in_key = false; in_number = false; why = None; counts = c.args.counts }) c.stream-streamed.new.stream refl c.requires c.in-Err.ensures in
    let halted = subst (λ (why : Option Stop). IsHaltedBy why (written_from (g.V.Value.emission c.args.v.now).calls (cbor_start c.args.style c.args.counts.now)) (g.K.Sink.told c.args.out.now) (g.K.Sink.told c.stream-streamed.new.stream.sink.now)) c.in-Some.is after.halted in
    search rules

pub unreachable-requires : goal.unreachable-requires
unreachable-requires g c =
    let after = after_stops g.K.Sink.told (cbor_start c.args.style c.args.counts.now) (g.V.Value.emission c.args.v.now) (record { sink = record c.args.out { ghost_name = _ }; style = c.args.style; place = Elsewhere; in_key = false; in_number = false; why = None; counts = c.args.counts }) c.stream-streamed.new.stream refl c.requires c.in-Err.ensures in
    subst (λ (why : Option Stop). IsHaltedBy why (written_from (g.V.Value.emission c.args.v.now).calls (cbor_start c.args.style c.args.counts.now)) (g.K.Sink.told c.args.out.now) (g.K.Sink.told c.stream-streamed.new.stream.sink.now)) c.in-None.is after.halted
