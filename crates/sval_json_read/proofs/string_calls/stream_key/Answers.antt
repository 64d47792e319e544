use Rattle.sval_label.specs.Calls.{Call, Slot}
use Rattle.sval_core.proofs.Emissions.{passes_on}
use Rattle.sval_json_read.specs.Calls.{string_value_calls}
use Rattle.sval_json_read.proofs.PieceStreams.{enclosed_stops, enclosed_emits}
use Rattle.sval_json_read.proofs.string_calls.stream_key.Goals as goal

pub returns-in_err-stream_string : goal.returns-in_err-stream_string
returns-in_err-stream_string g c =
    passes_on c.from_residual-in_err-stream_string.result c.from_residual-in_err-stream_string.ensures.0
    (enclosed_stops (Call.PartBegin Slot.Key) (Call.PartEnd Slot.Key) (string_value_calls c.args.raw.now) c.in_ok-map_key_begin.ensures c.in_err-stream_string.ensures)

pub returns : goal.returns
returns g c =
    enclosed_emits (Call.PartBegin Slot.Key) (Call.PartEnd Slot.Key) (string_value_calls c.args.raw.now) c.map_key_end.result (g.S.Stream.standing c.map_key_end.new.self)
    c.in_ok-map_key_begin.ensures c.in_ok-stream_string.ensures c.map_key_end.ensures
