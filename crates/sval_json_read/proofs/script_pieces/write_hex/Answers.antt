use Rattle.std.proofs.Common.{rules, arith}
use Rattle.std.proofs.lemmas.List.{length-take}
use Rattle.sval_script.proofs.PrintedPieces.{piece_done, piece_stopped}
use Rattle.sval_json_read.proofs.script_pieces.write_hex.Goals as goal

pub slice_bounds-write_run-end : goal.slice_bounds-write_run-end
slice_bounds-write_run-end g c = omega (arith, length-take 64 c.loop-rest.rest.now, c.loop-rest-test.true)

pub write_run-requires : goal.write_run-requires
write_run-requires g c = omega (arith, length-take 64 c.loop-rest.rest.now)

pub returns-in_err-write_run : goal.returns-in_err-write_run
returns-in_err-write_run g c =
    let stops = piece_stopped 64 c.loop-rest.rest.now c.loop-rest.invariant c.in_err-write_run.ensures in search rules

pub loop-rest-preserved : goal.loop-rest-preserved
loop-rest-preserved g c = piece_done 64 c.loop-rest.rest.now c.loop-rest.invariant c.in_ok-write_run.ensures
