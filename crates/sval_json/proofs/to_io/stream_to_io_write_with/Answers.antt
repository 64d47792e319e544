use Rattle.std.proofs.Common.{rules, sym, subst, Err}
use Rattle.sval_json.specs.declared.error.ErrorKind.{ErrorKind}
use Rattle.sval_json.specs.Written.{StreamsJson}
use Rattle.sval_json.proofs.Streaming.{ran_is_written, stopped_is_begun}
use Rattle.sval_json.proofs.to_io.stream_to_io_write_with.Goals as goal

-- the writer began with the sink that was handed in, under a name of its own
pub returns-in-Ok : goal.returns-in-Ok
returns-in-Ok g c =
    let after = ran_is_written g.K.Sink.told (record c.args.out { ghost_name = _ }) c.args.variants (g.V.Value.emission c.args.v.now) c.stream.new.stream c.new-writer.result c.new-writer.ensures c.in-Ok.ensures.willing c.in-Ok.ensures.ran in
    let streams = after.0 in
    let name = after.1 in
    search rules

pub returns-in-Err : goal.returns-in-Err
returns-in-Err g c =
    let told = g.K.Sink.told in
    let e = g.V.Value.emission c.args.v.now in
    let after = stopped_is_begun told (record c.args.out { ghost_name = _ }) c.args.variants e c.stream.new.stream c.new-writer.result c.new-writer.ensures c.in-Err.ensures in
    let streams = subst (λ (found : ErrorKind). StreamsJson c.args.variants e (Err found) (told c.args.out.now) (told c.stream.new.stream.sink.now)) (sym c.error.ensures) after.0 in
    let name = after.1 in
    search rules
