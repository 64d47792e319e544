use Rattle.std.proofs.Common.{◌≡◌, [], rules}
use Rattle.hex.specs.Hex.{encode_lower}
use Rattle.sval_json_read.specs.Calls.{piece_bytes}
use Rattle.sval_json_read.specs.SeenPieces.{seen_piece}
use Rattle.sval_json_read.specs.SeenValues.{text_in}
use Rattle.sval_json_read.proofs.NodeTexts.{up_to_next, up_to_end, stops_in_next}
use Rattle.sval_json_read.proofs.TokenScripts.{next_digits, no_digits}
use Rattle.sval_json_read.proofs.node_script.write_text_hex.Goals as goal

pub returns-in_err-write_piece_hex : goal.returns-in_err-write_piece_hex
returns-in_err-write_piece_hex g c =
    let piece = seen_piece c.first_piece.result.0 in
    let behind = c.first_piece.result.1.now in
    let next = next_digits c.loop-rest.rest.now behind piece c.first_piece.ensures.pieces in
    let stops = stops_in_next (encode_lower (piece_bytes piece)) (encode_lower (text_in behind)) next c.loop-rest.invariant.2 c.in_err-write_piece_hex.ensures in search rules

pub loop-rest-preserved : goal.loop-rest-preserved
loop-rest-preserved g c =
    let piece = seen_piece c.first_piece.result.0 in
    let behind = c.first_piece.result.1.now in
    let next = next_digits c.loop-rest.rest.now behind piece c.first_piece.ensures.pieces in
    (search rules, c.first_piece.ensures.is_raw, up_to_next (encode_lower (piece_bytes piece)) (encode_lower (text_in behind)) next c.loop-rest.invariant.2 c.in_ok-write_piece_hex.ensures)

pub returns : goal.returns
returns g c = let done : c.loop-rest.rest.now ≡ [] = search rules in up_to_end (no_digits c.loop-rest.rest.now done) c.loop-rest.invariant.2
