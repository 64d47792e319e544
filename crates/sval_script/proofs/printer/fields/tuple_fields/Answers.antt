use Rattle.std.proofs.Common.{rules, [], ◌∷◌}
use Rattle.sval_label.specs.SeenName.{seen_option_tag}
use Rattle.sval_label.specs.SeenIndex.{seen_index}
use Rattle.sval_script.specs.Printed.{tag_field, index_field}
use Rattle.sval_script.specs.Printing.{spaced}
use Rattle.sval_script.proofs.PrintedPieces.{goes_on, stops_first, spaced-append}
use Rattle.sval_script.proofs.printer.fields.tuple_fields.Goals as goal

pub returns-in_err-tag_field : goal.returns-in_err-tag_field
returns-in_err-tag_field g c =
    let first = tag_field (seen_option_tag c.args.tag) ∷ [] in
    let rest = index_field (seen_index c.args.index.now) ∷ [] in
    let stops = stops_first (spaced first) (spaced rest) (spaced-append first rest) c.in_err-tag_field.ensures in search rules

pub returns : goal.returns
returns g c =
    let first = tag_field (seen_option_tag c.args.tag) ∷ [] in
    let rest = index_field (seen_index c.args.index.now) ∷ [] in
    goes_on _ c.index_field.result (spaced first) (spaced rest) (spaced-append first rest) c.in_ok-tag_field.ensures c.index_field.ensures
