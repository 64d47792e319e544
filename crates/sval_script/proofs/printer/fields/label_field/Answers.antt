use Rattle.std.proofs.Common.{rules, [], ◌∷◌, ◌∙◌, ap, refl}
use Rattle.sval_label.specs.SeenName.{seen_option_tag}
use Rattle.sval_script.specs.Printed.{hex_field, hint_text}
use Rattle.sval_script.specs.Printing.{spaced}
use Rattle.sval_script.proofs.PrintedPieces.{goes_on, stops_first, hinted}
use Rattle.sval_script.proofs.printer.fields.label_field.Goals as goal

pub returns-in_err-hex_field : goal.returns-in_err-hex_field
returns-in_err-hex_field g c =
    let label = c.args.label.now in
    let piece = hex_field c.as_bytes.result.now in
    let same = hinted (hex_field label.text) piece label.tag label.tag (ap hex_field (c.as_bytes.ensures.value ∙ c.as_str.ensures)) refl in
    let stops = stops_first (spaced (piece ∷ [])) (hint_text label.tag) same c.in_err-hex_field.ensures in search rules

pub returns : goal.returns
returns g c =
    let label = c.args.label.now in
    let piece = hex_field c.as_bytes.result.now in
    let tag = seen_option_tag c.tag.result in
    let same = hinted (hex_field label.text) piece label.tag tag (ap hex_field (c.as_bytes.ensures.value ∙ c.as_str.ensures)) c.tag.ensures in
    goes_on _ c.write_hint.result (spaced (piece ∷ [])) (hint_text tag) same c.in_ok-hex_field.ensures c.write_hint.ensures
