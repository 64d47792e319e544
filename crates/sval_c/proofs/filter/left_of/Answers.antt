use Rattle.std.specs.Prelude.{None}
use Rattle.std.proofs.Common.{ap, sym, subst, refl}
use Rattle.sval_io.specs.Taken.{Taken, taken_told}
use Rattle.sval_tool.specs.Conversions.{IsTextLeft, IsDocumentCause}
use Rattle.sval_tool.specs.declared.convert.Target.TheVariants as target
use Rattle.sval_tool.specs.declared.error.DocumentError.{DocumentError}
use Rattle.sval_c.specs.Due.{OfText}
use Rattle.sval_c.specs.OfFilters.{LeftOf}
use Rattle.sval_c.proofs.Lefts.{left_written, left_unwritten, write_never}
use Rattle.sval_c.proofs.filter.left_of.Goals as goal

pub returns-in-Ok : goal.returns-in-Ok
returns-in-Ok c =
    let empty = ap (λ (sink : Taken). sink.bytes) c.new-sink.ensures in
    subst (OfText (LeftOf c.args.rule c.args.paths.now) c.args.input.now None) (sym c.into_vec.ensures)
    (left_written c.args.rule c.args.paths.now c.args.input.now c.new-sink.result c.write_document.new.out empty c.in-Ok.ensures.ok)

pub of_document-requires : goal.of_document-requires
of_document-requires c = λ is.
    write_never c.args.rule c.args.paths.now c.args.input.now c.new-sink.result c.write_document.new.out (record { rule = c.args.rule; paths = c.args.paths; target = target.Json })
    (subst (λ (why : DocumentError). IsDocumentCause taken_told (record { rule = c.args.rule; paths = c.args.paths; target = target.Json }) (IsTextLeft c.args.rule c.args.paths.now target.Json c.args.input.now) c.args.input.now why c.new-sink.result c.write_document.new.out) is c.in-Err.ensures.err)

pub returns-in-Err : goal.returns-in-Err
returns-in-Err c =
    left_unwritten c.args.rule c.args.paths.now c.args.input.now c.new-sink.result c.write_document.new.out (record { rule = c.args.rule; paths = c.args.paths; target = target.Json }) refl c.in-Err.error c.of_document.result c.of_document.ensures c.in-Err.ensures.err
