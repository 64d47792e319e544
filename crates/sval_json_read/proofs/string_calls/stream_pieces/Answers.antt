use Rattle.std.proofs.Common.{rules}
use Rattle.sval_core.proofs.Emissions.{passes_on}
use Rattle.sval_json_read.proofs.PieceStreams.{pieces-start, piece-step, piece-stop}
use Rattle.sval_json_read.proofs.string_calls.stream_pieces.Goals as goal

pub loop-rest-init : goal.loop-rest-init
loop-rest-init g c = (search rules, pieces-start c.args.raw.now c.requires)

pub first_piece-requires-clause-is_raw : goal.first_piece-requires-clause-is_raw
first_piece-requires-clause-is_raw g c = c.loop-rest.invariant.1.is_raw

pub returns-in_err-stream_piece : goal.returns-in_err-stream_piece
returns-in_err-stream_piece g c =
    passes_on c.from_residual.result c.from_residual.ensures.0 (piece-stop _ _ c.first_piece.result.1.now c.loop-rest.invariant.1 c.first_piece.ensures.pieces c.in_err-stream_piece.ensures)

pub loop-rest-smaller : goal.loop-rest-smaller
loop-rest-smaller g c = c.first_piece.ensures.shorter

pub loop-rest-preserved : goal.loop-rest-preserved
loop-rest-preserved g c = (search rules, piece-step _ _ c.first_piece.result.1.now c.loop-rest.invariant.1 c.first_piece.ensures.pieces c.first_piece.ensures.is_raw c.in_ok-stream_piece.ensures)
