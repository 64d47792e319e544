use Rattle.std.proofs.Common.{rules}
use Rattle.std.specs.Fmt.{decimal}
use Rattle.sval_json.specs.Steps.{value_written}
use Rattle.sval_json.specs.WriterLaw.{Does, writer_view}
use Rattle.sval_json.proofs.Combined.{does_then}
use Rattle.sval_json.proofs.writer.JsonWriter.write_byte.Goals as goal

pub returns : goal.returns
returns g c =
    let value : Does (value_written (decimal c.args.byte)) c.write_value.result (writer_view g.K.Sink.told c.begin_item.new.self) (writer_view g.K.Sink.told c.write_value.new.self) = search rules in
    does_then _ _ c.write_value.result _ _ c.in_ok-begin_item.ensures value
