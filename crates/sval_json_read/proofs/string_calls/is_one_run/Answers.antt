use Rattle.std.proofs.Common.{◌≡◌, ◌<◌, ◌∷◌, [], false, length, is_some, not, ap, ◌∙◌, subst, arith}
use Rattle.std.proofs.lemmas.Bool.{OnTrue_from}
use Rattle.std.proofs.lemmas.Bool.Decides.{nat_tests}
use Rattle.memchr.specs.Find.{IsFirstByte, is_byte}
use Rattle.sval_json_read.specs.Calls.{run, pieces}
use Rattle.sval_json_read.proofs.StringCuts.{one_run}
use Rattle.sval_json_read.proofs.string_calls.is_one_run.Goals as goal

pub returns-then-not-is_empty : goal.returns-then-not-is_empty
returns-then-not-is_empty c =
    let raw = c.args.raw.now in
    let some : 0 < length raw = grind (arith, nat_tests, c.if-not-is_empty.true, c.is_empty.ensures) in
    OnTrue_from c.is_none.result (pieces raw ≡ run raw ∷ []) (λ none.
    let unfound : is_some c.memchr.result ≡ false = c.is_none.ensures ∙ ap not none in
    one_run raw c.memchr.result some (subst (λ bytes. IsFirstByte (is_byte 92) bytes c.memchr.result) c.as_bytes.ensures.value c.memchr.ensures) unfound)
