use Rattle.std.proofs.Common.{arith, ◌≡◌, [], ◌++◌, Err, ap, sym, ◌∙◌, append-nil, refl}
use Rattle.std.proofs.lemmas.Result.{err_from_is_err_and}
use Rattle.sval_script.specs.Lines.{complete}
use Rattle.sval_script.specs.NextFields.{call_before}
use Rattle.sval_script.specs.NameNumbers.{name_numbers}
use Rattle.sval_script.specs.Words.{word_call}
use Rattle.sval_script.specs.declared.field.LineError.TheVariants.{Bad}
use Rattle.sval_script.proofs.NamesMade.{has_name, name_put}
use Rattle.sval_script.proofs.line.read_named.Goals as goal

pub returns-in_err-name-clause-bad : goal.returns-in_err-name-clause-bad
returns-in_err-name-clause-bad c bad =
    let p = err_from_is_err_and c.from_residual.result c.from_residual.ensures.1 in
    let same : c.in_err-name.field-0.0 ≡ Bad = cc (bad, p.1, p.2) in
    c.in_err-name.ensures.bad (ap Err same) (λ n. complete (word_call c.args.named n))

pub returns-clause-made : goal.returns-clause-made
returns-clause-made c =
    let name = c.in_ok-name.ensures.stored in
    record {
      bytes = name.text;
      numbers = name_numbers c.in_ok-name.name ++ [];
      spells = name.spells (λ n. complete (word_call c.args.named n)) ∙ ap (λ n. call_before (complete (word_call c.args.named n)) c.name.new.self) (sym (has_name c.in_ok-name.name name.text []));
      puts = name_put c.in_ok-name.name name.text [] _ _ _ name.is_text name.has_len (c.in_ok-push_name.ensures.bytes ∙ name.stored) (c.in_ok-push_name.ensures.numbers ∙ sym (append-nil _)) (λ numbers. refl)
          (omega arith) (λ text. text);
    }
