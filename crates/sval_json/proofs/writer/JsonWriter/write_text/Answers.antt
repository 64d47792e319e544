use Rattle.std.proofs.Common.{◌++◌, codes, ap}
use Rattle.sval_json.specs.Actions.{◌then◌}
use Rattle.sval_json.specs.Escape.{escaped}
use Rattle.sval_json.specs.SeenWriter.{seen_handler}
use Rattle.sval_json.specs.Steps.{value_written, text_begins, fragment, quote_if_quoted}
use Rattle.sval_json.specs.WriterLaw.{writer_state, writer_view}
use Rattle.sval_json.proofs.Combined.{does_alike, text_is_quoted}
use Rattle.sval_json.proofs.writer.JsonWriter.write_text.Goals as goal

pub returns-in-Escapes : goal.returns-in-Escapes
returns-in-Escapes g c =
    let text = c.args.text.now in
    does_alike (value_written (codes "\"" ++ escaped text ++ codes "\"")) (text_begins then fragment text then quote_if_quoted) c.write_with_quotes.result
    (writer_view g.K.Sink.told c.args.self.now) (writer_view g.K.Sink.told c.write_with_quotes.new.self)
    (text_is_quoted text (writer_state c.args.self.now) c.if-self.true (ap seen_handler c.in-Escapes.is)) c.write_with_quotes.ensures
