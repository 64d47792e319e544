use Rattle.std.proofs.Common.{◌≡◌, [], ◌∷◌, length, arith, rules, sym, ap, subst}
use Rattle.std.specs.Bool.{OnTrue}
use Rattle.sval_json_read.specs.Calls.{run, pieces}
use Rattle.sval_json_read.specs.SeenPieces.{seen_piece}
use Rattle.sval_json_read.proofs.TokenScripts.{next_length, one_run_is, raw_length}
use Rattle.sval_json_read.proofs.node_script.text_len.Goals as goal

pub returns-then-is_one_run : goal.returns-then-is_one_run
returns-then-is_one_run c =
    let one = subst (λ is. OnTrue is (pieces c.args.raw.now ≡ run c.args.raw.now ∷ [])) c.if-is_one_run.true c.is_one_run.ensures in
    ap length (sym (one_run_is c.args.raw.now one))

pub overflow_add-len : goal.overflow_add-len
overflow_add-len c =
    let piece = seen_piece c.first_piece.result.0 in
    let next = next_length c.loop-rest.rest.now c.first_piece.result.1.now piece c.first_piece.ensures.pieces in
    omega (arith, next, c.piece_len-len.ensures, c.loop-rest.invariant.2, raw_length c.args.raw.now c.requires)

pub loop-rest-preserved : goal.loop-rest-preserved
loop-rest-preserved c =
    let piece = seen_piece c.first_piece.result.0 in
    let next = next_length c.loop-rest.rest.now c.first_piece.result.1.now piece c.first_piece.ensures.pieces in
    (search rules, c.first_piece.ensures.is_raw, omega (arith, next, c.piece_len-len.ensures, c.loop-rest.invariant.2))
