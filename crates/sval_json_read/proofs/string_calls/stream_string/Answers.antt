use Rattle.std.specs.Prelude.{None, map}
use Rattle.sval_label.specs.Calls.{Call}
use Rattle.sval_core.proofs.Emissions.{passes_on}
use Rattle.sval_json_read.specs.Calls.{piece_call, pieces}
use Rattle.sval_json_read.proofs.PieceStreams.{enclosed_stops, enclosed_emits}
use Rattle.sval_json_read.proofs.string_calls.stream_string.Goals as goal

pub returns-in_err-stream_pieces : goal.returns-in_err-stream_pieces
returns-in_err-stream_pieces g c =
    passes_on c.from_residual-in_err-stream_pieces.result c.from_residual-in_err-stream_pieces.ensures.0
    (enclosed_stops (Call.TextBegin None) Call.TextEnd (map piece_call (pieces c.args.raw.now)) c.in_ok-text_begin.ensures c.in_err-stream_pieces.ensures)

pub returns : goal.returns
returns g c =
    enclosed_emits (Call.TextBegin None) Call.TextEnd (map piece_call (pieces c.args.raw.now)) c.text_end.result (g.S.Stream.standing c.text_end.new.self)
    c.in_ok-text_begin.ensures c.in_ok-stream_pieces.ensures c.text_end.ensures
