use Rattle.std.proofs.Common.{rules, [], ◌∷◌, Err}
use Rattle.sval_label.specs.SeenName.{seen_name}
use Rattle.sval_script.specs.Printed.{or_dash_field, tag_field, label_field, index_field}
use Rattle.sval_script.specs.Printing.{spaced}
use Rattle.sval_script.proofs.PrintedPieces.{goes_on, stops_first, spaced-append}
use Rattle.sval_script.proofs.printer.fields.name_fields.Goals as goal

pub returns-in_err-tag_field : goal.returns-in_err-tag_field
returns-in_err-tag_field g c =
    let name = seen_name c.args.name in
    let first = tag_field name.tag ∷ [] in
    let rest = or_dash_field label_field name.label ∷ or_dash_field index_field name.index ∷ [] in
    let stops = stops_first (spaced first) (spaced rest) (spaced-append first rest) c.in_err-tag_field.ensures in search rules

pub returns-in_err-label_or_dash : goal.returns-in_err-label_or_dash
returns-in_err-label_or_dash g c =
    let name = seen_name c.args.name in
    let first = tag_field name.tag ∷ [] in
    let second = or_dash_field label_field name.label ∷ [] in
    let rest = or_dash_field index_field name.index ∷ [] in
    let stops = stops_first (spaced second) (spaced rest) (spaced-append second rest) c.in_err-label_or_dash.ensures in
    let all = goes_on _ (Err c.in_err-label_or_dash.field-0.0) (spaced first) (spaced (or_dash_field label_field name.label ∷ rest)) (spaced-append first (or_dash_field label_field name.label ∷ rest)) c.in_ok-tag_field.ensures stops in search rules

pub returns : goal.returns
returns g c =
    let name = seen_name c.args.name in
    let first = tag_field name.tag ∷ [] in
    let second = or_dash_field label_field name.label ∷ [] in
    let rest = or_dash_field index_field name.index ∷ [] in
    let r = c.index_or_dash.result in
    let later = goes_on _ r (spaced second) (spaced rest) (spaced-append second rest) c.in_ok-label_or_dash.ensures c.index_or_dash.ensures in
    goes_on _ r (spaced first) (spaced (or_dash_field label_field name.label ∷ rest)) (spaced-append first (or_dash_field label_field name.label ∷ rest)) c.in_ok-tag_field.ensures later
