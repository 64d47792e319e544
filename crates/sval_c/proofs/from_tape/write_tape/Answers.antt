use Rattle.std.proofs.Common.{rules}
use Rattle.std.proofs.lemmas.Bool.{OnTrue_at, OnTrue_from}
use Rattle.sval_c.proofs.TapeAtOnce.{tape_written}
use Rattle.sval_c.proofs.from_tape.write_tape.Goals as goal

-- the writer began with the sink that was handed in, under a name of its own
pub returns : goal.returns
returns g c = OnTrue_from c.stream_checked-passed.result.whole _ (λ whole.
    let after = tape_written g.K.Sink.told c.args.tape.now (record c.args.out { ghost_name = _ }) c.new-writer.result c.stream_checked-passed.result.stream c.new-writer.ensures (OnTrue_at whole c.stream_checked-passed.ensures) in
    let writes = after.0 in
    let name = after.1 in
    search rules)
