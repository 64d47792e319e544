use Rattle.std.proofs.Common.{rules, sym, subst, ◌∙◌, Err}
use Rattle.sval_io.specs.declared.sink.SinkError.{SinkError}
use Rattle.sval_json.specs.declared.error.ErrorKind.{ErrorKind}
use Rattle.sval_tool.specs.Conversions.{WritesLeftJson}
use Rattle.sval_tool.specs.Passing.{IsSinkStop, sink_error_of}
use Rattle.sval_tool.proofs.LeftWritten.{all_written, part_written, known_stop}
use Rattle.sval_tool.proofs.convert.write_left.Goals as goal

-- the writer began with the sink that was handed in, under a name of its own
pub returns-in-Ok : goal.returns-in-Ok
returns-in-Ok g c = λ input r.
    let after = all_written c.args.rule c.args.paths.now input c.args.doc.now r g.K.Sink.told (record c.args.out { ghost_name = _ }) c.new-writer.result c.stream_left.new.stream c.new-writer.ensures c.in-Ok.ensures in
    let writes = after.0 in
    let name = after.1 in
    search rules

pub stop_of-requires : goal.stop_of-requires
stop_of-requires g c =
    let (input, r) = c.requires in
    let e = c.kind.ensures ∙ c.error.ensures in
    subst (λ (found : ErrorKind). IsSinkStop c.in-Err.why found) (sym e)
    (known_stop c.args.rule c.args.paths.now input c.args.doc.now r g.K.Sink.told (record c.args.out { ghost_name = _ }) c.new-writer.result c.stream_left.new.stream c.new-writer.ensures c.in-Err.why c.in-Err.ensures)

pub returns-in-Err : goal.returns-in-Err
returns-in-Err g c = λ input r.
    let told = g.K.Sink.told in
    let e = c.kind.ensures ∙ c.error.ensures in
    let after = part_written c.args.rule c.args.paths.now input c.args.doc.now r told (record c.args.out { ghost_name = _ }) c.new-writer.result c.stream_left.new.stream c.new-writer.ensures c.in-Err.why c.in-Err.ensures in
    let by = subst (λ (found : ErrorKind). WritesLeftJson c.args.rule c.args.paths.now input (Err (sink_error_of c.in-Err.why found)) (told c.args.out.now) (told c.stream_left.new.stream.sink.now)) (sym e) after.0 in
    let writes = subst (λ (why : SinkError). WritesLeftJson c.args.rule c.args.paths.now input (Err why) (told c.args.out.now) (told c.stream_left.new.stream.sink.now)) (sym c.stop_of.ensures) by in
    let name = after.1 in
    search rules
