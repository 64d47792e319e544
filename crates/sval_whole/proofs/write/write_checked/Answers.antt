use Rattle.std.proofs.Common.{sym, subst, ap, ◌∙◌, Err}
use Rattle.sval_whole.specs.declared.error.WriteError.{WriteError}
use Rattle.sval_whole.specs.Whole.{WritesJson, of_json_error}
use Rattle.sval_whole.proofs.Whole.{checked_writes, checked_stops}
use Rattle.sval_whole.proofs.write.write_checked.Goals as goal

pub returns-in-Ok : goal.returns-in-Ok
returns-in-Ok g c =
    checked_writes c.args.variants (g.V.Value.emission c.args.v.now) g.K.Sink.told c.args.out.now c.stream_to_io_write_with.new.out c.requires c.in-Ok.ensures

pub returns-in-Err : goal.returns-in-Err
returns-in-Err g c =
    let e = g.V.Value.emission c.args.v.now in
    subst (λ (why : WriteError). WritesJson c.args.variants e g.K.Sink.told (Err why) c.args.out.now c.stream_to_io_write_with.new.out)
    (sym (c.from.ensures ∙ ap of_json_error c.kind.ensures))
    (checked_stops c.args.variants e g.K.Sink.told c.args.out.now c.stream_to_io_write_with.new.out c.requires c.in-Err.error c.in-Err.ensures)
