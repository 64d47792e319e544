use Rattle.std.proofs.Common.{rules, codes, ◌++◌, ap, append-nil}
use Rattle.hex.specs.Hex.{encode_lower}
use Rattle.sval_script.proofs.PrintedPieces.{goes_on, stops_first}
use Rattle.sval_script.proofs.printer.fields.hex_field.Goals as goal

pub returns-in_err-write_all : goal.returns-in_err-write_all
returns-in_err-write_all g c =
    let digits = encode_lower c.args.bytes.now in
    let stops = stops_first (codes " =") digits (ap (λ digits. codes " =" ++ digits) (append-nil digits)) c.in_err-write_all.ensures.writes in search rules

pub returns : goal.returns
returns g c =
    goes_on _ c.write_hex.result (codes " =") (encode_lower c.args.bytes.now) (ap (λ digits. codes " =" ++ digits) (append-nil (encode_lower c.args.bytes.now)))
    c.in_ok-write_all.ensures.writes c.write_hex.ensures
