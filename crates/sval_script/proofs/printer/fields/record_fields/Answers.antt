use Rattle.std.proofs.Common.{rules, [], ◌∷◌}
use Rattle.sval_label.specs.SeenName.{seen_option_tag}
use Rattle.sval_script.specs.Printed.{tag_field, label_field}
use Rattle.sval_script.specs.Printing.{spaced}
use Rattle.sval_script.proofs.PrintedPieces.{goes_on, stops_first, spaced-append}
use Rattle.sval_script.proofs.printer.fields.record_fields.Goals as goal

pub returns-in_err-tag_field : goal.returns-in_err-tag_field
returns-in_err-tag_field g c =
    let first = tag_field (seen_option_tag c.args.tag) ∷ [] in
    let rest = label_field c.args.label.now ∷ [] in
    let stops = stops_first (spaced first) (spaced rest) (spaced-append first rest) c.in_err-tag_field.ensures in search rules

pub returns : goal.returns
returns g c =
    let first = tag_field (seen_option_tag c.args.tag) ∷ [] in
    let rest = label_field c.args.label.now ∷ [] in
    goes_on _ c.label_field.result (spaced first) (spaced rest) (spaced-append first rest) c.in_ok-tag_field.ensures c.label_field.ensures
