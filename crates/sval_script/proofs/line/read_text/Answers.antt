use Rattle.std.proofs.Common.{◌≡◌, Err, ap, refl}
use Rattle.std.proofs.lemmas.Result.{err_from_is_err_and}
use Rattle.sval_label.specs.Calls as call
use Rattle.sval_script.specs.Lines.{complete}
use Rattle.sval_script.specs.Words.{is_kept}
use Rattle.sval_script.specs.declared.field.LineError.TheVariants.{Bad}
use Rattle.sval_script.specs.declared.line.Line.TheVariants as line
use Rattle.sval_script.proofs.LinesMade.{fragment_made}
use Rattle.sval_script.proofs.line.read_text.Goals as goal

pub returns-in_err-len-clause-bad : goal.returns-in_err-len-clause-bad
returns-in_err-len-clause-bad c bad =
    let p = err_from_is_err_and c.from_residual.result c.from_residual.ensures.1 in
    let same : c.in_err-len.field-0.0 ≡ Bad = cc (bad, p.1, p.2) in
    c.in_err-len.ensures.bad (ap Err same) (λ x. complete (call.TextFragment (is_kept c.args.life) x))

pub returns-clause-made : goal.returns-clause-made
returns-clause-made c =
    fragment_made (call.TextFragment (is_kept c.args.life)) (line.TextFragment c.args.life c.in_ok-len.len) c.args.store.now.numbers.items (λ bytes. refl) (λ bytes utf8. utf8) refl refl c.in_ok-len.ensures.stored
