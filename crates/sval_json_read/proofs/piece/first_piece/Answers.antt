use Rattle.std.proofs.Common.{length, subst}
use Rattle.memchr.specs.Find.{Nowhere, Passes, is_byte}
use Rattle.sval_json_read.specs.RawStrings.{done}
use Rattle.sval_json_read.proofs.StringCuts.{no_backslashes, whole_run}
use Rattle.sval_json_read.proofs.piece.first_piece.Goals as goal

pub first_run-requires-clause-unescaped : goal.first_run-requires-clause-unescaped
first_run-requires-clause-unescaped c =
    no_backslashes c.args.raw.now c.in-Some.len (subst (λ bytes. Nowhere (Passes (is_byte 92) bytes) 0 c.in-Some.len) c.as_bytes.ensures.value c.in-Some.ensures.0.before)

pub returns-in-None-clause-pieces : goal.returns-in-None-clause-pieces
returns-in-None-clause-pieces c =
    whole_run c.args.raw.now c.requires.some (subst (λ bytes. Nowhere (Passes (is_byte 92) bytes) 0 (length bytes)) c.as_bytes.ensures.value c.in-None.ensures)

pub returns-in-None-clause-is_raw : goal.returns-in-None-clause-is_raw
returns-in-None-clause-is_raw c = done
