use Rattle.std.proofs.Common.{arith, ℕ, Option, ◌≡◌, ◌∷◌, [], ◌++◌, Err, Some, None, ap, sym, ◌∙◌, append-nil, refl}
use Rattle.std.proofs.lemmas.Result.{err_from_is_err_and}
use Rattle.sval_label.specs.Calls as call
use Rattle.sval_label.specs.Calls.{Name}
use Rattle.sval_script.specs.Lines.{LineForm, complete, field_then, size}
use Rattle.sval_script.specs.NextFields.{call_before, name_from}
use Rattle.sval_script.specs.NameNumbers.{name_numbers, name_with}
use Rattle.sval_script.specs.Words.{head_of}
use Rattle.sval_script.specs.declared.field.LineError.TheVariants.{Bad}
use Rattle.sval_script.proofs.FieldsRead.{not_read, is_read}
use Rattle.sval_script.proofs.NamesMade.{has_name, behind_name, name_put}
use Rattle.sval_script.proofs.line.read_named_opening.Goals as goal

pub returns-in_err-name-clause-bad : goal.returns-in_err-name-clause-bad
returns-in_err-name-clause-bad c bad =
    let p = err_from_is_err_and c.from_residual.result c.from_residual.ensures.1 in
    let same : c.in_err-name.field-0.0 ≡ Bad = cc (bad, p.1, p.2) in
    c.in_err-name.ensures.bad (ap Err same) (λ n. field_then size (λ s. complete (call.Begin (head_of c.args.opening n) s)))

pub returns-in_err-size-clause-bad : goal.returns-in_err-size-clause-bad
returns-in_err-size-clause-bad c = λ _.
    c.in_ok-name.ensures.stored.spells (λ n. field_then size (λ s. complete (call.Begin (head_of c.args.opening n) s))) ∙ not_read size (λ n. n) c.name.new.self c.size.new.self c.size.result _ _ c.size.ensures c.in_err-size.ensures.value _

pub returns-in_default-clause-made : goal.returns-in_default-clause-made
returns-in_default-clause-made c =
    let name = c.in_ok-name.ensures.stored in
    let begin : Name → Option ℕ → LineForm = λ n s. complete (call.Begin (head_of c.args.opening n) s) in
    record {
      bytes = name.text;
      numbers = name_numbers c.in_ok-name.name ++ [];
      spells = name.spells (λ n. field_then size (begin n)) ∙ is_read size (λ n. n) c.name.new.self c.size.new.self c.size.result _ c.size.ensures c.in_ok-size.ensures.value (begin (name_from c.in_ok-name.name.parts name.text c.in_ok-name.name.number))
          ∙ ap (λ s. call_before (begin (name_from c.in_ok-name.name.parts name.text c.in_ok-name.name.number) s) c.size.new.self) c.in_default.is
          ∙ ap (λ n. call_before (begin n None) c.size.new.self) (sym (has_name c.in_ok-name.name name.text []));
      puts = name_put c.in_ok-name.name name.text [] _ _ _ name.is_text name.has_len (c.in_ok-push_name.ensures.bytes ∙ name.stored) (c.in_ok-push_name.ensures.numbers ∙ sym (append-nil _)) (λ numbers. refl)
          (omega arith) (λ text. text);
    }

pub returns-clause-made : goal.returns-clause-made
returns-clause-made c =
    let name = c.in_ok-name.ensures.stored in
    let n = c.in-Some.size in
    let begin : Name → Option ℕ → LineForm = λ n s. complete (call.Begin (head_of c.args.opening n) s) in
    record {
      bytes = name.text;
      numbers = name_numbers c.in_ok-name.name ++ (n ∷ []);
      spells = name.spells (λ n. field_then size (begin n)) ∙ is_read size (λ n. n) c.name.new.self c.size.new.self c.size.result _ c.size.ensures c.in_ok-size.ensures.value (begin (name_from c.in_ok-name.name.parts name.text c.in_ok-name.name.number))
          ∙ ap (λ s. call_before (begin (name_from c.in_ok-name.name.parts name.text c.in_ok-name.name.number) s) c.size.new.self) c.in-Some.is
          ∙ ap (λ name. call_before (begin name (Some n)) c.size.new.self) (sym (has_name c.in_ok-name.name name.text (n ∷ [])))
          ∙ ap (λ s. call_before (begin (name_with c.in_ok-name.name.parts name.text (name_numbers c.in_ok-name.name ++ (n ∷ []))) (Some s)) c.size.new.self) (sym (behind_name c.in_ok-name.name n));
      puts = name_put c.in_ok-name.name name.text (n ∷ []) _ _ _ name.is_text name.has_len (c.in_ok-push.ensures.bytes ∙ c.in_ok-push_name.ensures.bytes ∙ name.stored)
          (c.in_ok-push.ensures.numbers ∙ ap (λ ns. ns ++ (n ∷ [])) c.in_ok-push_name.ensures.numbers) (λ numbers. refl) refl (λ text. text);
    }
