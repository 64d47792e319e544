use Rattle.std.proofs.Common.{sym, ap, ◌∙◌}
use Rattle.std.proofs.lemmas.Slice.Eq.{bytes_eq-Decides}
use Rattle.sval_script.specs.Lines.{forms, find_form}
use Rattle.sval_script.proofs.WordTable.{no_text, no_word, no_bytes}
use Rattle.sval_script.proofs.word.Word.read.Goals as goal

pub returns-then-is_empty : goal.returns-then-is_empty
returns-then-is_empty c = sym (ap (λ t. find_form t forms) (no_bytes c.args.text.now (sym c.is_empty.ensures ∙ c.if-is_empty.true)) ∙ no_text)

pub returns-then-same : goal.returns-then-same
returns-then-same c =
    let same = (bytes_eq-Decides c.row-word.result.0.now c.args.text.now).0 (sym c.same.ensures ∙ c.if-same.true) in
    sym c.row-word.ensures.form ∙ ap (λ t. find_form t forms) same

pub returns-else-same : goal.returns-else-same
returns-else-same c =
    sym (no_word c.args.text.now c.row-word.result.0.now (rw (← c.place.ensures) c.row-word.ensures.text) (sym c.same.ensures ∙ c.if-same.false))
