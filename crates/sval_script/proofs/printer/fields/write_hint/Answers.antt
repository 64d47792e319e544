use Rattle.std.proofs.Common.{codes, ◌∷◌, ◌∙◌, ap, sym}
use Rattle.sval_label.specs.SeenName.{seen_option_tag}
use Rattle.sval_script.specs.Printed.{hint_text}
use Rattle.sval_script.proofs.PrintedPieces.{goes_on}
use Rattle.sval_script.proofs.printer.fields.write_hint.Goals as goal

pub returns : goal.returns
returns g c =
    goes_on _ c.write_all-2.result (codes ":") c.as_bytes.result.now
    (ap (λ tag. hint_text (seen_option_tag tag)) c.in-Some.is ∙ ap (λ text. 58 ∷ text) (sym c.as_bytes.ensures.value))
    c.in_ok-write_all.ensures.writes c.write_all-2.ensures.writes
