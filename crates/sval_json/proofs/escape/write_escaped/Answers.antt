use Rattle.std.proofs.Common.{rules}
use Rattle.sval_json.proofs.EscapedPieces.{nothing_escaped, escaped_whole, ends_plain}
use Rattle.sval_json.proofs.escape.write_escaped.Goals as goal

pub returns-then-run-bytes : goal.returns-then-run-bytes
returns-then-run-bytes g c =
    let bytes = c.args.bytes.now in
    ends_plain (g.K.Sink.told c.write_all.new.sink) c.write_all.result (nothing_escaped (g.K.Sink.told c.args.sink.now) bytes)
    (escaped_whole bytes c.first_escape-run.result (search rules) c.first_escape-run.ensures.plain) c.write_all.ensures.writes
