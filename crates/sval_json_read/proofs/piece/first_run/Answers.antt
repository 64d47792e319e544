use Rattle.std.proofs.Common.{arith}
use Rattle.sval_json_read.proofs.StringCuts.{first_run, run_ends, rest_is_raw}
use Rattle.sval_json_read.proofs.piece.first_run.Goals as goal

pub returns-clause-pieces : goal.returns-clause-pieces
returns-clause-pieces c =
    let within = c.requires.within in
    rw (c.split_at.ensures.front, c.split_at.ensures.back)
    (first_run c.args.raw.now c.args.len c.requires.some (omega (arith, within)) c.requires.unescaped
    (run_ends c.args.raw.now c.args.len within c.requires.backslash))

pub returns-clause-is_raw : goal.returns-clause-is_raw
returns-clause-is_raw c = rw c.split_at.ensures.back (rest_is_raw c.args.raw.now c.args.len c.requires.unescaped c.requires.is_raw)
