use Rattle.std.proofs.Common.{refl, true, ◌≡◌}
use Rattle.sval_label.specs.Grouped.{grouped_call}
use Rattle.sval_script.specs.Printing.{HasKnownTags}
use Rattle.sval_script.proofs.Printers.{passes_cut}
use Rattle.sval_script.proofs.printer.print_call.Goals as goal

pub returns-then-not-knows_tags : goal.returns-then-not-knows_tags
returns-then-not-knows_tags g c =
    let call = grouped_call (λ text. text.now) (λ bytes. bytes.now) c.args.call in
    let unknown : HasKnownTags call → ⊥ = λ known. let is : c.knows_tags.result ≡ true = c.knows_tags.ensures.1 known in cc (is, c.if-not-knows_tags.true) in
    (unknown, refl)

pub returns-in_err-write_line : goal.returns-in_err-write_line
returns-in_err-write_line g c =
    let call = grouped_call (λ text. text.now) (λ bytes. bytes.now) c.args.call in
    passes_cut c.in_err-write_line.field-0.0 c.from_residual.result call c.from_residual.ensures.0 c.from_residual.ensures.1 (c.knows_tags.ensures.0 c.if-not-knows_tags.false) c.in_err-write_line.ensures

pub returns : goal.returns
returns g c = (c.knows_tags.ensures.0 c.if-not-knows_tags.false, c.in_ok-write_line.ensures)
