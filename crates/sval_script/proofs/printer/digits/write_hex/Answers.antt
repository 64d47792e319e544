use Rattle.std.proofs.Common.{rules, arith}
use Rattle.std.proofs.lemmas.List.{length-take}
use Rattle.sval_script.proofs.PrintedPieces.{piece_done, piece_stopped}
use Rattle.sval_script.proofs.printer.digits.write_hex.Goals as goal

pub slice_bounds-write_piece-end : goal.slice_bounds-write_piece-end
slice_bounds-write_piece-end g c = omega (arith, length-take 64 c.loop-rest.rest.now, c.loop-rest-test.true)

pub write_piece-requires : goal.write_piece-requires
write_piece-requires g c = omega (arith, length-take 64 c.loop-rest.rest.now)

pub returns-in_err-write_piece : goal.returns-in_err-write_piece
returns-in_err-write_piece g c =
    let stops = piece_stopped 64 c.loop-rest.rest.now c.loop-rest.invariant c.in_err-write_piece.ensures in search rules

pub loop-rest-preserved : goal.loop-rest-preserved
loop-rest-preserved g c = piece_done 64 c.loop-rest.rest.now c.loop-rest.invariant c.in_ok-write_piece.ensures
