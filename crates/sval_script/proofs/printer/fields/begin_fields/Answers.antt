use Rattle.std.proofs.Common.{rules, [], ◌∷◌}
use Rattle.sval_label.specs.Calls.{End}
use Rattle.sval_label.specs.Grouped.{seen_head}
use Rattle.sval_script.specs.Printed.{size_field}
use Rattle.sval_script.specs.Printing.{spaced, fields_of}
use Rattle.sval_script.proofs.PrintedPieces.{goes_on, stops_first, begin_split}
use Rattle.sval_script.proofs.printer.fields.begin_fields.Goals as goal

pub returns-in_err-head_fields : goal.returns-in_err-head_fields
returns-in_err-head_fields g c =
    let head = seen_head c.args.head in
    let stops = stops_first (spaced (fields_of (End head))) (spaced (size_field c.args.size ∷ [])) (begin_split head c.args.size) c.in_err-head_fields.ensures in search rules

pub returns : goal.returns
returns g c =
    let head = seen_head c.args.head in
    goes_on _ c.size_field.result (spaced (fields_of (End head))) (spaced (size_field c.args.size ∷ [])) (begin_split head c.args.size) c.in_ok-head_fields.ensures c.size_field.ensures
