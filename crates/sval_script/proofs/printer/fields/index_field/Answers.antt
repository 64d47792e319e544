use Rattle.std.proofs.Common.{rules, [], ◌∷◌, ◌∙◌, refl}
use Rattle.std.specs.Fmt.{signed_decimal}
use Rattle.sval_label.specs.SeenName.{seen_option_tag}
use Rattle.sval_label.specs.SeenIndex.{seen_index}
use Rattle.sval_script.specs.Printed.{hint_text}
use Rattle.sval_script.specs.Printing.{spaced}
use Rattle.sval_script.proofs.PrintedPieces.{goes_on, stops_first, hinted}
use Rattle.sval_script.proofs.printer.fields.index_field.Goals as goal

pub returns-in_err-write_field : goal.returns-in_err-write_field
returns-in_err-write_field g c =
    let index = seen_index c.args.index.now in
    let piece = c.as_bytes.result.now in
    let same = hinted (signed_decimal index.number) piece index.tag index.tag (c.as_bytes.ensures.value ∙ c.format_index.ensures) refl in
    let stops = stops_first (spaced (piece ∷ [])) (hint_text index.tag) same c.in_err-write_field.ensures in search rules

pub returns : goal.returns
returns g c =
    let index = seen_index c.args.index.now in
    let piece = c.as_bytes.result.now in
    let tag = seen_option_tag c.tag.result in
    let same = hinted (signed_decimal index.number) piece index.tag tag (c.as_bytes.ensures.value ∙ c.format_index.ensures) c.tag.ensures in
    goes_on _ c.write_hint.result (spaced (piece ∷ [])) (hint_text tag) same c.in_ok-write_field.ensures c.write_hint.ensures
