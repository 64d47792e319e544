use Rattle.std.proofs.Common.{rules, [], ◌∷◌, ◌++◌, Err, refl}
use Rattle.sval_label.specs.Grouped.{grouped_call}
use Rattle.sval_script.specs.Printing.{spaced, fields_of}
use Rattle.sval_script.proofs.PrintedPieces.{goes_on, stops_first, line_split}
use Rattle.sval_script.proofs.printer.write_pieces.Goals as goal

pub returns-in_err-write_all : goal.returns-in_err-write_all
returns-in_err-write_all g c =
    let call = grouped_call (λ text. text.now) (λ bytes. bytes.now) c.args.call in
    let piece = c.word.result.now in
    let stops = stops_first piece (spaced (fields_of call) ++ (10 ∷ [])) (line_split call piece c.word.ensures) c.in_err-write_all.ensures.writes in search rules

pub returns-in_err-write_fields : goal.returns-in_err-write_fields
returns-in_err-write_fields g c =
    let call = grouped_call (λ text. text.now) (λ bytes. bytes.now) c.args.call in
    let piece = c.word.result.now in
    let fields = spaced (fields_of call) in
    let stops = stops_first fields (10 ∷ []) refl c.in_err-write_fields.ensures in
    let all = goes_on _ (Err c.in_err-write_fields.field-0.0) piece (fields ++ (10 ∷ [])) (line_split call piece c.word.ensures) c.in_ok-write_all.ensures.writes stops in search rules

pub returns : goal.returns
returns g c =
    let call = grouped_call (λ text. text.now) (λ bytes. bytes.now) c.args.call in
    let piece = c.word.result.now in
    let fields = spaced (fields_of call) in
    let r = c.write_all-2.result in
    let later = goes_on _ r fields (10 ∷ []) refl c.in_ok-write_fields.ensures c.write_all-2.ensures.writes in
    goes_on _ r piece (fields ++ (10 ∷ [])) (line_split call piece c.word.ensures) c.in_ok-write_all.ensures.writes later
