use Rattle.std.proofs.Common.{rules, subst}
use Rattle.sval_io.specs.Sinks.{WritesWhole, WritesFront}
use Rattle.sval_json.specs.Escape.{escaped}
use Rattle.sval_json_read.specs.Calls.{piece_bytes}
use Rattle.sval_json_read.specs.SeenPieces.{seen_piece}
use Rattle.sval_json_read.specs.SeenValues.{text_in}
use Rattle.sval_json_read.proofs.NodeTexts.{next_piece_text, up_to_next, stops_in_next}
use Rattle.sval_json_read.proofs.node_text.write_pieces.Goals as goal

pub returns-in_err-write_in_place : goal.returns-in_err-write_in_place
returns-in_err-write_in_place g c =
    let ready = c.split_ready.result.0.now in
    let other = escaped (text_in c.split_ready.result.1.now) in
    let wrote = subst (λ text. WritesFront c.in_err-write_in_place.field-0.0 (g.K.Sink.told c.loop-escape.out) text (g.K.Sink.told c.write_in_place.new.sink)) c.as_bytes.ensures.value c.in_err-write_in_place.ensures.writes in
    let stops = stops_in_next ready other c.split_ready.ensures.text c.loop-escape.invariant.2 wrote in search rules

pub returns-in_err-write_piece : goal.returns-in_err-write_piece
returns-in_err-write_piece g c =
    let ready = c.split_ready.result.0.now in
    let other = c.split_ready.result.1.now in
    let piece = seen_piece c.first_escape.result.0 in
    let behind = c.first_escape.result.1.now in
    let wrote = subst (λ text. WritesWhole (g.K.Sink.told c.loop-escape.out) text (g.K.Sink.told c.write_in_place.new.sink)) c.as_bytes.ensures.value c.in_ok-write_in_place.ensures.writes in
    let front = up_to_next ready (escaped (text_in other)) c.split_ready.ensures.text c.loop-escape.invariant.2 wrote in
    let next = next_piece_text other behind piece c.first_escape.ensures.pieces in
    let stops = stops_in_next (escaped (piece_bytes piece)) (escaped (text_in behind)) next front c.in_err-write_piece.ensures in search rules

pub loop-escape-preserved : goal.loop-escape-preserved
loop-escape-preserved g c =
    let ready = c.split_ready.result.0.now in
    let other = c.split_ready.result.1.now in
    let piece = seen_piece c.first_escape.result.0 in
    let behind = c.first_escape.result.1.now in
    let wrote = subst (λ text. WritesWhole (g.K.Sink.told c.loop-escape.out) text (g.K.Sink.told c.write_in_place.new.sink)) c.as_bytes.ensures.value c.in_ok-write_in_place.ensures.writes in
    let front = up_to_next ready (escaped (text_in other)) c.split_ready.ensures.text c.loop-escape.invariant.2 wrote in
    let next = next_piece_text other behind piece c.first_escape.ensures.pieces in
    (search rules, c.first_escape.ensures.is_raw, up_to_next (escaped (piece_bytes piece)) (escaped (text_in behind)) next front c.in_ok-write_piece.ensures)
